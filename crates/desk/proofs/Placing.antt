-- The places of rows in turn, written at their rows.
use Rattle.std.proofs.Common.{◌≡◌, ◌≢◌, ℕ, ◌+◌, ◌<◌, ◌≤◌, List, length, get_or, set, subst, sym, ap, ◌∙◌, ⊎_elim, arith, get_or-set_other, get_or-set_same, length-set}
use Rattle.std.proofs.lemmas.Bool.{cases_eq}
use Rattle.turns.specs.declared.layout.Turn.{Turn}
use Rattle.desk.specs.Texts.{HaveTurns, Places}

-- the place that is written at a row is below n, and that of a turn of the row
pub record Finds (turns : List Turn) (places : List ℕ) (n row : ℕ) : Type 0 where
  pub below : get_or places row 0 < n
  pub turn : (d : Turn) → (get_or turns (get_or places row 0) d).row ≡ row

-- the rows of the first n turns are so
pub record Placed (turns : List Turn) (places : List ℕ) (n : ℕ) : Type 0 where
  pub at : (place : ℕ) (d : Turn) → place < n → (get_or turns place d).row < length places → Finds turns places n (get_or turns place d).row

pub none_placed : (turns : List Turn) (places : List ℕ) → Placed turns places 0
none_placed turns places = record { at = λ place d h l. absurd (omega arith) }

here : (turns : List Turn) (places : List ℕ) (n row r : ℕ) → ((d : Turn) → (get_or turns n d).row ≡ row) → row < length places → r ≡ row → Finds turns (set places row n) (n + 1) r
here turns places n row r is l e =
    let at : get_or (set places row n) r 0 ≡ n = ap (λ (k : ℕ). get_or (set places row n) k 0) e ∙ get_or-set_same places row n 0 l in
    record { below = omega arith; turn = λ d. ap (λ (k : ℕ). (get_or turns k d).row) at ∙ is d ∙ sym e }

before : (turns : List Turn) (places : List ℕ) (n row r : ℕ) → Finds turns places n r → r ≢ row → Finds turns (set places row n) (n + 1) r
before turns places n row r f ne =
    let at : get_or (set places row n) r 0 ≡ get_or places r 0 = get_or-set_other places row r n 0 ne in
    record { below = omega (arith, f.below); turn = λ d. ap (λ (k : ℕ). (get_or turns k d).row) at ∙ f.turn d }

-- a turn that is not the last comes before it
earlier : (turns : List Turn) (n row place : ℕ) (d : Turn) → ((d : Turn) → (get_or turns n d).row ≡ row) → place < n + 1 → (get_or turns place d).row ≢ row → place < n
earlier turns n row place d is h ne = ⊎_elim (λ e. absurd (ne (ap (λ (k : ℕ). (get_or turns k d).row) e ∙ is d))) (λ o. omega (arith, o)) (cases_eq place n)

pub one_placed : (turns : List Turn) (places : List ℕ) (n row : ℕ) → Placed turns places n → ((d : Turn) → (get_or turns n d).row ≡ row) → row < length places → Placed turns (set places row n) (n + 1)
one_placed turns places n row p is l = record {
  at = λ place d h m.
      ⊎_elim
      (λ e. here turns places n row (get_or turns place d).row is l e)
      (λ ne. before turns places n row (get_or turns place d).row (p.at place d (earlier turns n row place d is h ne) (omega (arith, m, length-set places row n))) ne)
      (cases_eq (get_or turns place d).row row);
}

pub one_passed : (turns : List Turn) (places : List ℕ) (n row : ℕ) → Placed turns places n → ((d : Turn) → (get_or turns n d).row ≡ row) → length places ≤ row → Placed turns places (n + 1)
one_passed turns places n row p is l = record {
  at = λ place d h m.
      let ne : (get_or turns place d).row ≢ row = omega (arith, m) in
      let f = p.at place d (earlier turns n row place d is h ne) m in
      record { below = omega (arith, f.below); turn = f.turn };
}

-- all rows are found
pub all_placed : (turns : List Turn) (places : List ℕ) (n : ℕ) → Placed turns places n → n ≡ length turns → length places ≡ length turns → HaveTurns (length turns) turns → Places turns places
all_placed turns places n p e l have =
    let none : Turn = record { partition = 0; order = 0; row = 0 } in
    let found = λ (row : ℕ) (h : row < length places).
    let (place, lt, is) = have row (omega (arith, l)) in
    let r = is none in
    let w : (get_or turns place none).row < length places = omega (arith, r) in
    subst (λ (k : ℕ). Finds turns places n k) r (p.at place none (omega (arith, e)) w) in
    record { as_many = l; within = λ row h. omega (arith, (found row h).below); each = λ row d h. (found row h).turn d }
