-- Where a partition is refused.
use Rattle.std.proofs.Common.{◌≡◌, ℕ, ◌<◌, Bool, List, [], length, map, get_or, Option, subst, sym, inr, arith}
use Rattle.std.proofs.lemmas.List.{length-map, get_or-map}
use Rattle.std.specs.Borrow.{Bor}
use Rattle.options.specs.declared.frame.RowsFrame.{RowsFrame}
use Rattle.turns.specs.declared.layout.Turn.{Turn}
use Rattle.desk.specs.declared.refusal.Refusal.{Refusal}
use Rattle.desk.specs.Stops.{OneRefuses, PartRefuses}

pub one_refuses : {V : Type 0} (same : V → V → Bool) (wf wg : Bool) (frame : Option RowsFrame) (cells : List (Option V)) (parts : List (Bor (List Turn))) (k : ℕ) (d : Bor (List Turn)) (r : Refusal) → k < length parts → PartRefuses same wf wg frame cells (get_or parts k d).now r → OneRefuses same wf wg frame cells (map (λ p. p.now) parts) r
one_refuses same wf wg frame cells parts k d r h p =
    let within : k < length (map (λ (p : Bor (List Turn)). p.now) parts) = omega (arith, length-map parts (λ (p : Bor (List Turn)). p.now)) in
    let at : (get_or parts k d).now ≡ get_or (map (λ (p : Bor (List Turn)). p.now) parts) k [] = sym (get_or-map (λ (p : Bor (List Turn)). p.now) parts k d [] h) in
    inr (k, within, subst (λ ts. PartRefuses same wf wg frame cells ts r) at p)
