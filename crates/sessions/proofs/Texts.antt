-- The text of the rows, and how many cells are NULL. Assumes nothing.
use Rattle.std.proofs.Common.{◌≡◌, ℕ, ◌+◌, ◌≤◌, cond, not, List, [], ◌∷◌, ◌++◌, count_by, map, length, is_some, Some, None, sym, refl, append_assoc, arith}
use Rattle.std.proofs.lemmas.List.Recursion.{is_count_by}
use Rattle.sessions.specs.declared.record.Record.{Record}
use Rattle.sessions.specs.Sessions.{Cell}
use Rattle.sessions.specs.Report.{rows_text, nulls, expiry_of, head_text, summary_text, report_text}

one_null : (c : Cell) (cs : List Cell) → nulls (c ∷ cs) ≡ cond (not (is_some c)) (1 + nulls cs) (nulls cs)
one_null None cs = refl
one_null (Some t) cs = refl

pub nulls_count : (cs : List Cell) → count_by (λ c. not (is_some c)) cs ≡ nulls cs
nulls_count cs = sym (is_count_by nulls (λ c. not (is_some c)) refl one_null cs)

pub empty_count : (rs : List Record) → count_by (λ r. not (is_some r.expiry)) rs ≡ nulls (map expiry_of rs)
empty_count rs = sym (is_count_by (λ (qs : List Record). nulls (map expiry_of qs)) (λ q. not (is_some q.expiry)) refl (λ q qs. one_null q.expiry (map expiry_of qs)) rs)

pub nulls_few : (cs : List Cell) → nulls cs ≤ length cs
nulls_few [] = omega arith
nulls_few (None ∷ cs) = omega (arith, nulls_few cs)
nulls_few (Some t ∷ cs) = omega (arith, nulls_few cs)

pub text_is : (h : List ℕ) (rows : List Record) (answers : List Cell) (n p q : ℕ) (a b s : List ℕ) → a ≡ head_text h → b ≡ a ++ rows_text rows answers → p ≡ nulls (map expiry_of rows) → q ≡ nulls answers → s ≡ b ++ summary_text n (length rows) p q → s ≡ report_text h rows answers n
text_is h rows answers n p q a b s ea eb ep eq es = rw (es, eb, ea, ep, eq) (append_assoc (head_text h) (rows_text rows answers) (summary_text n (length rows) (nulls (map expiry_of rows)) (nulls answers)))
