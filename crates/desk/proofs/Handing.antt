-- What is handed over of a partition is what is meant.
use Rattle.std.proofs.Common.{◌≡◌, ℕ, ◌+◌, ◌<◌, Bool, true, false, cond, List, [], ◌∷◌, ◌++◌, length, map, take, get_or, Option, subst, refl, ap, sym, ◌∙◌}
use Rattle.std.proofs.lemmas.List.{take_more, map-append}
use Rattle.std.specs.Borrow.{Bor}
use Rattle.evaluator.specs.Meaning.{Meaning, Partition, partition}
use Rattle.moving.specs.Moving.{from_zero}
use Rattle.options.specs.declared.frame.RowsFrame.{RowsFrame}
use Rattle.partition.specs.Table.{Frame, Input}
use Rattle.turns.specs.declared.layout.Turn.{Turn}
use Rattle.desk.specs.declared.by_rows.Told.{Told}
use Rattle.desk.specs.Parts.{IsPart, part}
use Rattle.desk.specs.Runs.{Took, TookAll, TookPart}

wanted : (wants : Bool) (frames fs : List Frame) → fs ≡ cond wants frames [] → cond wants fs [] ≡ cond wants frames []
wanted true frames fs e = e
wanted false frames fs e = refl

pub part_is : {V : Type 0} (wf wg : Bool) (frame : Option RowsFrame) (all : List (Option V)) (turns : List Turn) (x : Input V) → IsPart wf wg frame all turns x → partition wf x ≡ part wf frame all turns
part_is wf wg frame all turns x h =
    let rows = h.rows in
    let frames = wanted wf _ x.frames h.frames in
    cc

pub took_part : {V A S : Type 0} (meaning : S → Meaning V A) (e : S) (wf wg : Bool) (frame : Option RowsFrame) (all : List (Option V)) (step : ℕ) (before after : Told) (turns : List Turn) (x : Input V) → IsPart wf wg frame all turns x → Took meaning e (partition wf x) (from_zero x.frames) step before after → TookPart meaning e (part wf frame all) step before turns after
took_part meaning e wf wg frame all step before after turns x h t =
    subst (λ q. Took meaning e q (from_zero (part wf frame all turns).frames) step before after) (part_is wf wg frame all turns x h)
    (subst (λ fs. Took meaning e (partition wf x) (from_zero fs) step before after) h.frames t)

-- with one partition more
pub took_more : {V A S : Type 0} (meaning : S → Meaning V A) (e : S) (p : List Turn → Partition V) (step : ℕ) (before mid after : Told) (parts : List (List Turn)) (turns : List Turn) → TookAll meaning e p step before parts mid → TookPart meaning e p step mid turns after → TookAll meaning e p step before (parts ++ turns ∷ []) after
took_more meaning e p step before mid after [] turns a t = (after, subst (λ b. TookPart meaning e p step b turns after) a t, refl)
took_more meaning e p step before mid after (ts ∷ parts) turns a t = let (m, one, more) = a in (m, one, took_more meaning e p step m mid after parts turns more t)

-- the same of partitions that are lent
pub took_next : {V A S : Type 0} (meaning : S → Meaning V A) (e : S) (p : List Turn → Partition V) (step : ℕ) (before mid after : Told) (parts : List (Bor (List Turn))) (i : ℕ) (d : Bor (List Turn)) → i < length parts → TookAll meaning e p step before (map (λ x. x.now) (take i parts)) mid → TookPart meaning e p step mid (get_or parts i d).now after → TookAll meaning e p step before (map (λ x. x.now) (take (i + 1) parts)) after
took_next meaning e p step before mid after parts i d h a t =
    let more : map (λ (x : Bor (List Turn)). x.now) (take (i + 1) parts) ≡ map (λ (x : Bor (List Turn)). x.now) (take i parts) ++ (get_or parts i d).now ∷ [] = ap (map (λ (x : Bor (List Turn)). x.now)) (take_more parts i d h) ∙ map-append (λ (x : Bor (List Turn)). x.now) (take i parts) (get_or parts i d ∷ []) in
    subst (λ ts. TookAll meaning e p step before ts after) (sym more) (took_more meaning e p step before mid after (map (λ x. x.now) (take i parts)) (get_or parts i d).now a t)
