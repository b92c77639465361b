use Rattle.std.proofs.Common.{◌≡◌, ◌∷◌, Err, IfOk, Ok, Result, subst, vec_items, rules}
use Rattle.replayed.specs.Replays.{AreLines}
use Rattle.replayed.proofs.script.replayed.Goals as goal

where_ok : {A E : Type 0} {P Q : A → Type 0} → ((x : A) → P x → Q x) → (r : Result A E) → IfOk r P → IfOk r Q
where_ok f (Ok x) h = f x h
where_ok f (Err e) h = tt

pub returns : goal.returns
returns c =
    let head = c.in_ok-head.head.now in
    let rest = c.in_ok-head.rest.now in
    let all : vec_items c.in_ok-lines.lines ≡ head ∷ rest = search rules in
    let are : AreLines c.args.text.now (head ∷ rest) = subst (AreLines c.args.text.now) all c.in_ok-lines.ensures in
    where_ok (λ s h. record {
      head = head;
      rest = rest;
      are = are;
      kind = c.in_ok-kind.kind;
      told = h;
    }) c.replayed_kind.result c.replayed_kind.ensures
