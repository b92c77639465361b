use Rattle.std.proofs.Common.{◌≡◌, ℕ, ◌+◌, ◌<◌, ◌≤◌, List, [], ◌∷◌, ◌++◌, length, get_or, arith, ⊎_elim, sym, ap, ◌∙◌, subst, length-append}
use Rattle.std.proofs.lemmas.List.{get_or_append_left}
use Rattle.std.proofs.lemmas.Bool.{cases_lt}
use Rattle.std.proofs.Math.Seq.{get_or-append_seam}
use Rattle.std.specs.Borrow.{Bor}
use Rattle.options.specs.declared.given.Given.{Given}
use Rattle.options.specs.declared.key.Key.{Key}
use Rattle.options.specs.Given.{Absent, At, Once, Reads, Run, width}

-- one option more at the end
pub run_more : (ws : List (Bor (List ℕ))) (k : ℕ) (gs : List Given) (m : ℕ) (g : Given) → Run ws k gs m → Reads ws m g → Run ws k (gs ++ (g ∷ [])) (m + width g)
run_more ws k [] m g run reads = (subst (λ x. Reads ws x g) (sym run) reads, ap (λ x. x + width g) run)
run_more ws k (h ∷ gs) m g run reads = (run.0, run_more ws (k + width h) gs m g run.1 reads)

-- an option among the earlier ones
at_front : (gs : List Given) (g : Given) (key : Key) (i : ℕ) → At (gs ++ (g ∷ [])) key i → i < length gs → At gs key i
at_front gs g key i at lt = (lt, λ d. sym (ap (λ (x : Given). x.key) (get_or_append_left gs (g ∷ []) d i lt)) ∙ at.1 d)

-- the last option
at_last : (gs : List Given) (g : Given) (key : Key) (i : ℕ) → At (gs ++ (g ∷ [])) key i → length gs ≤ i → (i ≡ length gs) × (g.key ≡ key)
at_last gs g key i at le =
    let same : i ≡ length gs = omega (arith, at.0, length-append gs (g ∷ []), le) in
    (same, sym (ap (λ (x : Given). x.key) (get_or-append_seam gs g [] g)) ∙ subst (λ j. (get_or (gs ++ (g ∷ [])) j g).key ≡ key) same (at.1 g))

-- a new option behind others keeps each once
pub once_more : (gs : List Given) (g : Given) → Once gs → Absent gs g.key → Once (gs ++ (g ∷ []))
once_more gs g once absent key i j one two = ⊎_elim
    (λ a. ⊎_elim
    (λ b. once key i j (at_front gs g key i one a) (at_front gs g key j two b))
    (λ b. let last = at_last gs g key j two b in absurd (absent i (subst (λ x. At gs x i) (sym last.1) (at_front gs g key i one a))))
    (cases_lt j (length gs)))
    (λ a. let last = at_last gs g key i one a in ⊎_elim
    (λ b. absurd (absent j (subst (λ x. At gs x j) (sym last.1) (at_front gs g key j two b))))
    (λ b. last.0 ∙ sym (at_last gs g key j two b).0)
    (cases_lt j (length gs)))
    (cases_lt i (length gs))
