-- The texts that a cursor passes, joined.
use Rattle.std.proofs.Common.{◌≡◌, ℕ, ◌+◌, ◌-◌, ◌≤◌, Bool, false, cond, List, ◌++◌, take, drop, slice_range, sym, ap, ◌∙◌, arith}
use Rattle.std.proofs.lemmas.List.{drop-drop}
use Rattle.std.proofs.Math.Seq.{take-add}
use Rattle.lines.specs.Cursors.{Onward, ahead, passed}
use Rattle.lines.specs.declared.cursor.Cursor.{Cursor}

pub slice_join : {X : Type 0} (xs : List X) (a b c : ℕ) → a ≤ b → b ≤ c → slice_range xs a c ≡ slice_range xs a b ++ slice_range xs b c
slice_join xs a b c h k =
    ap (λ n. take n (drop a xs)) (omega arith)
    ∙ take-add (b - a) (c - b) (drop a xs)
    ∙ ap (λ l. take (b - a) (drop a xs) ++ take (c - b) l) (drop-drop (b - a) a xs ∙ ap (λ n. drop n xs) (omega arith))

pub passed_join : (a b c : Cursor) → Onward a b → Onward b c → passed a c ≡ passed a b ++ passed b c
passed_join a b c h k =
    slice_join a.text.now a.at b.at c.at h.1 k.1
    ∙ ap (λ l. passed a b ++ slice_range l b.at c.at) (sym h.0)

pub further : (a b c : Cursor) → Onward a b → Onward b c → Onward a c
further a b c h k =
    let p : a.at ≤ b.at = h.1 in
    let q : b.at ≤ c.at = k.1 in
    (k.0 ∙ h.0, omega arith)

-- a byte that was not taken is not passed
pub stood : (a b c : Cursor) (took : Bool) → took ≡ false → b.at ≡ cond took (a.at + 1) a.at → Onward a b → passed a c ≡ passed b c
stood a b c took f step h =
    ap (λ l. slice_range l a.at c.at) (sym h.0)
    ∙ ap (λ n. slice_range b.text.now n c.at) (sym (step ∙ ap (λ v. cond v (a.at + 1) a.at) f))

-- and stands where it stood
pub still : (a b : Cursor) (took : Bool) → took ≡ false → b.at ≡ cond took (a.at + 1) a.at → Onward a b → ahead b ≡ ahead a
still a b took f step h = ap (λ l. drop b.at l) h.0 ∙ ap (λ n. drop n a.text.now) (step ∙ ap (λ v. cond v (a.at + 1) a.at) f)

-- a text, and what comes behind it
pub led : (a b c : Cursor) (text : List ℕ) → Onward a b → Onward b c → passed a b ≡ text → passed a c ≡ text ++ passed b c
led a b c text h k e = passed_join a b c h k ∙ ap (λ t. t ++ passed b c) e

-- two parts with a text between them
pub parted : (a b c d : Cursor) (text : List ℕ) → Onward a b → Onward b c → Onward c d → passed b c ≡ text → passed a d ≡ passed a b ++ (text ++ passed c d)
parted a b c d text h k l e = passed_join a b d h (further b c d k l) ∙ ap (λ t. passed a b ++ t) (led b c d text k l e)

-- two parts with a text between them, in an opening and a closing text
pub enclosed : (a b c d e f : Cursor) (opening middle closing : List ℕ) → Onward a b → Onward b c → Onward c d → Onward d e → Onward e f → passed a b ≡ opening → passed c d ≡ middle → passed e f ≡ closing → passed a f ≡ opening ++ (passed b c ++ (middle ++ (passed d e ++ closing)))
enclosed a b c d e f opening middle closing h k l m n o p q =
    led a b f opening h (further b d f (further b c d k l) (further d e f m n)) o
    ∙ ap (λ t. opening ++ t) (parted b c d f middle k l (further d e f m n) p
    ∙ ap (λ t. passed b c ++ (middle ++ t)) (passed_join d e f m n ∙ ap (λ t. passed d e ++ t) q))

-- two parts and a closing text
pub closed : (a b c d : Cursor) (closing : List ℕ) → Onward a b → Onward b c → Onward c d → passed c d ≡ closing → passed a d ≡ (passed a b ++ passed b c) ++ closing
closed a b c d closing h k l e =
    passed_join a c d (further a b c h k) l
    ∙ ap (λ t. t ++ passed c d) (passed_join a b c h k)
    ∙ ap (λ t. (passed a b ++ passed b c) ++ t) e
