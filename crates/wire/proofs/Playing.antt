-- The calls of a list on a new run, one by one, with what came of them written.
use Rattle.std.proofs.Common.{◌≡◌, ℕ, ◌+◌, ◌<◌, ◌≢◌, Bool, List, [], ◌∷◌, ◌++◌, map, length, get_or, set, None, Option, refl, sym, ap, ◌∙◌, subst, arith, rules, length-append, ⊎_elim, inr, min, ◌≤◌, Ok}
use Rattle.std.proofs.lemmas.Bool.{cases_eq}
use Rattle.std.proofs.Math.Seq.{get_or-append_seam}
use Rattle.std.proofs.lemmas.List.{get_or_append_left}
use Rattle.run.specs.declared.progress.Progress.{Progress}
use Rattle.run.specs.declared.run.Run.{Run}
use Rattle.run.specs.Rows.{Stepping, Settling}
use Rattle.evaluator.specs.Meaning.{Partition, Meaning, Alike, Laws}
use Rattle.replay.specs.declared.calls.Call.{Call}
use Rattle.replay.specs.declared.calls.Entry.{Entry}
use Rattle.replay.specs.History.{Event, history, accepted}
use Rattle.replay.specs.Act.{Acted, evaluator_of, progress_of, total_now, evaluator_after}
use Rattle.replay.proofs.Splits.{history_push}
use Rattle.replay.proofs.Going.{Going, going_start, going_more, going_ends}
use Rattle.wire.specs.declared.runs.Noted.{Noted}
use Rattle.wire.specs.Calls.{Stands, AllStand}
use Rattle.wire.specs.Lists.{over}
use Rattle.wire.specs.Runs.{noted, put_entries, put_outcome, ended, ended_at, RunLists, Ran, room_refusal, RunEnds, PlayEnds}
use Rattle.wire.specs.Stops.{refused}
use Rattle.column.specs.declared.fault.Fault.{Fault}

over_more : {A B : Type 0} (f : A → B) (ns : List A) (s : List B) (n : A) → length ns < length s → set (over (map f ns) s) (length ns) (f n) ≡ over (map f (ns ++ n ∷ [])) s
over_more f ns [] n h = absurd (omega arith)
over_more f [] (t ∷ ts) n h = refl
over_more f (y ∷ ys) (t ∷ ts) n h = ap (λ z. f y ∷ z) (over_more f ys ts n (omega arith))

put_more : {S A : Type 0} (stored : S → ℕ → A → S) (s : S) (k : ℕ) (ns : List (Entry A)) (n : Entry A) → put_entries stored s k (ns ++ n ∷ []) ≡ put_outcome stored (put_entries stored s k ns) (k + length ns) n.outcome
put_more stored s k [] n = ap (λ (j : ℕ). put_outcome stored s j n.outcome) (omega arith)
put_more stored s k (m ∷ ms) n =
    let t = put_outcome stored s k m.outcome in
    put_more stored t (k + 1) ms n ∙ ap (λ (j : ℕ). put_outcome stored (put_entries stored t (k + 1) ms) j n.outcome) (omega arith)

stand_more : {V : Type 0} (vs : List V) (ms : List Bool) (cs : List (List ℕ)) (k : ℕ) (calls : List (Call V)) (x : Call V) → AllStand vs ms cs k calls → Stands vs ms (get_or cs k []) x → AllStand vs ms cs (k + 1) (calls ++ x ∷ [])
stand_more vs ms cs k calls x r s = record {
  as_many = length-append calls (x ∷ []) ∙ ap (λ n. n + 1) r.as_many;
  each = λ j y l. ⊎_elim
      (λ q. subst (λ z. Stands vs ms (get_or cs z []) (get_or (calls ++ x ∷ []) z y)) (sym q) (subst (Stands vs ms (get_or cs k [])) (sym (ap (λ z. get_or (calls ++ x ∷ []) z y) (sym r.as_many) ∙ get_or-append_seam calls x [] y)) s))
      (λ q. let ne : j ≢ k = q in subst (Stands vs ms (get_or cs j [])) (sym (get_or_append_left calls (x ∷ []) y j (omega (arith, r.as_many)))) (r.each j y (omega arith)))
      (cases_eq j k);
}

module _ {V A S X : Type 0} (meaning : X → Meaning V A) (step : Stepping X V) (settle : Settling X) (renewed : X → X) (e : X) (wants z : Bool) (stored : S → ℕ → A → S) (vs : List V) (ms : List Bool) (cs : List (List ℕ)) (before : RunLists S) where
  -- the first k calls are made, and what came of them is written
  pub record Playing (k : ℕ) (run : Run X) (after : RunLists S) : Type 0 where
    pub calls : List (Call V)
    pub entries : List (Entry A)
    pub stand : AllStand vs ms cs k calls
    pub as_many : length entries ≡ k
    pub going : Going meaning step settle renewed e wants z run (history calls entries)
    pub outcomes : after.outcomes ≡ over (map (λ n. noted n.outcome) entries) before.outcomes
    pub answers : after.answers ≡ put_entries stored before.answers 0 entries

  pub playing_start : (run : Run X) → evaluator_of run ≡ renewed e → progress_of run ≡ record { from_zero = z; next = 0; last = (0, 0) } → total_now run ≡ None → Alike (meaning e) (meaning (evaluator_of run)) → ((p : Partition V) → (meaning (evaluator_of run)).stands p 0) → Playing 0 run before
  playing_start run r b t a st = record {
    calls = [];
    entries = [];
    stand = record { as_many = refl; each = λ k x h. absurd (omega arith) };
    as_many = refl;
    going = going_start meaning step settle renewed e wants z run r b t a st;
    outcomes = refl;
    answers = refl;
  }

  pub playing_more : ((e : X) → Laws (meaning e)) → (k : ℕ) (run run' : Run X) (after after' : RunLists S) (c : Call V) (n : Entry A) → Playing k run after → k < length before.outcomes → Stands vs ms (get_or cs k []) c → Acted meaning wants c run run' n → evaluator_of run' ≡ evaluator_after step settle (progress_of run) c n.outcome (evaluator_of run) → after'.outcomes ≡ set after.outcomes k (noted n.outcome) → after'.answers ≡ put_outcome stored after.answers k n.outcome → Playing (k + 1) run' after'
  playing_more law k run run' after after' c n p h s a l o w = record {
    calls = p.calls ++ c ∷ [];
    entries = p.entries ++ n ∷ [];
    stand = stand_more vs ms cs k p.calls c p.stand s;
    as_many = length-append p.entries (n ∷ []) ∙ ap (λ m. m + 1) p.as_many;
    going = subst (Going meaning step settle renewed e wants z run') (sym (history_push p.calls p.entries c n (p.stand.as_many ∙ sym p.as_many))) (going_more meaning step settle renewed e wants z law run run' (history p.calls p.entries) c n p.going a l);
    outcomes = o ∙ ap (λ (x : List Noted). set x k (noted n.outcome)) p.outcomes
        ∙ ap (λ (j : ℕ). set (over (map (λ m. noted m.outcome) p.entries) before.outcomes) j (noted n.outcome)) (sym p.as_many)
        ∙ over_more (λ m. noted m.outcome) p.entries before.outcomes n (omega (arith, p.as_many, h));
    answers = w ∙ ap (λ (x : S). put_outcome stored x k n.outcome) p.answers
        ∙ (let at : k ≡ 0 + length p.entries = omega (arith, p.as_many) in ap (λ (j : ℕ). put_outcome stored (put_entries stored before.answers 0 p.entries) j n.outcome) at)
        ∙ sym (put_more stored before.answers 0 p.entries n);
  }

  made : (k : ℕ) (run : Run X) (after : RunLists S) (last : Noted) → Playing k run after → k ≡ length cs → last ≡ ended_at (progress_of run).next (total_now run) → (calls : List (Call V)) × AllStand vs ms cs (length cs) calls × Ran meaning step settle renewed e wants z stored calls before after last
  made k run after last p q f =
      let h : List (Event V A) = history p.calls p.entries in
      let (law, ended, follows) = going_ends meaning step settle renewed e wants z run h p.going in (
        p.calls,
        subst (λ (n : ℕ). AllStand vs ms cs n p.calls) q p.stand,
        record {
          entries = p.entries;
          as_many = p.as_many ∙ sym p.stand.as_many;
          law = law;
          marks = λ earlier later x s. follows.marks earlier later x s;
          outcomes = p.outcomes;
          answers = p.answers;
          ends = f ∙ ap (λ (b : Progress). ended_at b.next (total_now run)) ended.progress ∙ ap (λ (t : Option ℕ). ended_at (accepted h) t) ended.total;
        },
      )

  pub playing_ends : (count : S → ℕ) (k : ℕ) (run : Run X) (after : RunLists S) (last : Noted) → length cs ≤ min (length before.outcomes) (count before.answers) → k ≡ length cs → Playing k run after → last ≡ ended_at (progress_of run).next (total_now run) → PlayEnds count vs ms cs before after (Ok last) (Ran meaning step settle renewed e wants z stored)
  playing_ends count k run after last room q p f =
      let passed : room_refusal (length cs) (length before.outcomes) (count before.answers) ≡ None = search (rules, room) in
      subst (λ (x : Option Fault). RunEnds (refused x) before after (Ok last) (AllStand vs ms cs (length cs)) (Ran meaning step settle renewed e wants z stored)) (sym passed) (inr (last, refl, made k run after last p q f))
