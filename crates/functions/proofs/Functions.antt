-- The names of functions, and what stands behind them.
use Rattle.std.proofs.Common.{◌≡◌, ℕ, ◌<◌, ◌==◌, cond, List, [], ◌∷◌, ◌++◌, codes, slice_index, Result, Ok, Err, refl, sym, ap, ◌∙◌, arith}
use Rattle.lead_lag.specs.declared.offset.WindowShiftKind.TheVariants as shift
use Rattle.rank.specs.declared.rank.RankType.TheVariants as rank
use Rattle.lines.specs.Back.{Ends, EndsField, EndsWord, IsWord}
use Rattle.lines.proofs.Words.{word}
use Rattle.evaluator.specs.declared.utils.Argument.{Argument}
use Rattle.functions.specs.declared.frames.FrameRow.{FrameRow}
use Rattle.functions.specs.declared.frames.FrameRow.TheVariants as row
use Rattle.functions.specs.declared.frames.Frames.{Frames}
use Rattle.functions.specs.declared.shift.Shift.{Shift}
use Rattle.functions.specs.declared.function.Function.{Function}
use Rattle.functions.specs.declared.function.Function.TheVariants as function
use Rattle.functions.specs.declared.name.Name.{Name}
use Rattle.functions.specs.declared.name.Name.TheVariants.{Lag, Lead, First, Last, Nth, Rank, DenseRank, RowNumber, PercentRank, CumeDist}
use Rattle.functions.specs.declared.name.UnknownName.{UnknownName}
use Rattle.functions.specs.Names.{NamesFunction, name_text}
use Rattle.functions.specs.Words.{arguments_text, frames_name, frames_text, name_of, rank_name, shift_name}

pub name_word : (n : Name) → IsWord (name_text n)
name_word Lag = word (codes "lag") tt
name_word Lead = word (codes "lead") tt
name_word First = word (codes "first") tt
name_word Last = word (codes "last") tt
name_word Nth = word (codes "nth") tt
name_word Rank = word (codes "rank") tt
name_word DenseRank = word (codes "dense") tt
name_word RowNumber = word (codes "rownum") tt
name_word PercentRank = word (codes "percent") tt
name_word CumeDist = word (codes "cume") tt

-- by the third byte and the length
abbrev named_by : List ℕ → Name
named_by bs =
    cond (slice_index bs 2 == 103) Lag
    (cond (slice_index bs 2 == 97) Lead
    (cond (slice_index bs 2 == 104) Nth
    (cond (slice_index bs 2 == 119) RowNumber
    (cond (slice_index bs 2 == 109) CumeDist
    (cond (slice_index bs 0 == 108) Last
    (cond (slice_index bs 0 == 102) First
    (cond (slice_index bs 0 == 112) PercentRank
    (cond (slice_index bs 0 == 100) DenseRank Rank))))))))

named : (n : Name) → named_by (name_text n) ≡ n
named Lag = refl
named Lead = refl
named First = refl
named Last = refl
named Nth = refl
named Rank = refl
named DenseRank = refl
named RowNumber = refl
named PercentRank = refl
named CumeDist = refl

pub read_name : (n : Name) (r : Result Name UnknownName) → NamesFunction (name_text n) r → r ≡ Ok n
read_name n (Ok m) h = ap Ok (sym (named m) ∙ ap named_by (sym h) ∙ named n)
read_name n (Err e) h = absurd (h n refl)

pub digits_end : (rest : List ℕ) → EndsField rest → Ends rest
digits_end [] ends = λ h. omega (arith, h)
digits_end (b ∷ bs) ends = λ h. omega (arith, h, ends (omega arith))

letters_end : (rest : List ℕ) → EndsField rest → EndsWord rest
letters_end [] ends = λ h. omega (arith, h)
letters_end (b ∷ bs) ends = λ h. omega (arith, h, ends (omega arith))

frames_end : (r : FrameRow) (f : Frames) (rest : List ℕ) → EndsWord (frames_text r f ++ rest)
frames_end row.First f rest = λ h. omega (arith, h)
frames_end row.Last f rest = λ h. omega (arith, h)
frames_end (row.Nth n) f rest = λ h. omega (arith, h)

-- a name is not carried on by what stands behind it
pub name_ends : {V : Type 0} (text : V → List ℕ) (f : Function V) (rest : List ℕ) → EndsField rest → EndsWord (arguments_text text f ++ rest)
name_ends text (function.Shift s) rest ends = λ h. omega (arith, h)
name_ends text (function.Frames f) rest ends = frames_end f.row f rest
name_ends text (function.Rank r) rest ends = letters_end rest ends
name_ends text function.RowNumber rest ends = letters_end rest ends
name_ends text function.PercentRank rest ends = letters_end rest ends
name_ends text function.CumeDist rest ends = letters_end rest ends

-- which evaluator a name is of
abbrev family : Name → ℕ
family Lag = 0
family Lead = 0
family First = 1
family Last = 1
family Nth = 1
family Rank = 2
family DenseRank = 2
family RowNumber = 3
family PercentRank = 4
family CumeDist = 5

shift_family : (k : _) → family (shift_name k) ≡ 0
shift_family shift.Lag = refl
shift_family shift.Lead = refl

frames_family : (r : _) → family (frames_name r) ≡ 1
frames_family row.First = refl
frames_family row.Last = refl
frames_family (row.Nth n) = refl

rank_family : (r : _) → family (rank_name r) ≡ 2
rank_family rank.Basic = refl
rank_family rank.Dense = refl

lag_kind : (k : _) → shift_name k ≡ Lag → k ≡ shift.Lag
lag_kind shift.Lag e = refl
lag_kind shift.Lead e = cc

lead_kind : (k : _) → shift_name k ≡ Lead → k ≡ shift.Lead
lead_kind shift.Lag e = cc
lead_kind shift.Lead e = refl

first_row : (r : _) → frames_name r ≡ First → r ≡ row.First
first_row row.First e = refl
first_row row.Last e = cc
first_row (row.Nth n) e = cc

last_row : (r : _) → frames_name r ≡ Last → r ≡ row.Last
last_row row.First e = cc
last_row row.Last e = refl
last_row (row.Nth n) e = cc

nth_row : (r : _) → frames_name r ≡ Nth → (n : Argument) × (r ≡ row.Nth n)
nth_row row.First e = cc
nth_row row.Last e = cc
nth_row (row.Nth n) e = (n, refl)

basic_type : (r : _) → rank_name r ≡ Rank → r ≡ rank.Basic
basic_type rank.Basic e = refl
basic_type rank.Dense e = cc

dense_type : (r : _) → rank_name r ≡ DenseRank → r ≡ rank.Dense
dense_type rank.Basic e = cc
dense_type rank.Dense e = refl

-- the function of a name
pub lag_is : {V : Type 0} (f : Function V) → name_of f ≡ Lag → (s : Shift V) × (f ≡ function.Shift s) × (s.kind ≡ shift.Lag)
lag_is (function.Shift s) e = (s, refl, lag_kind s.kind e)
lag_is (function.Frames f) e = absurd (omega (arith, sym (frames_family f.row) ∙ ap family e))
lag_is (function.Rank r) e = absurd (omega (arith, sym (rank_family r) ∙ ap family e))
lag_is function.RowNumber e = absurd (omega (arith, ap family e))
lag_is function.PercentRank e = absurd (omega (arith, ap family e))
lag_is function.CumeDist e = absurd (omega (arith, ap family e))

pub lead_is : {V : Type 0} (f : Function V) → name_of f ≡ Lead → (s : Shift V) × (f ≡ function.Shift s) × (s.kind ≡ shift.Lead)
lead_is (function.Shift s) e = (s, refl, lead_kind s.kind e)
lead_is (function.Frames f) e = absurd (omega (arith, sym (frames_family f.row) ∙ ap family e))
lead_is (function.Rank r) e = absurd (omega (arith, sym (rank_family r) ∙ ap family e))
lead_is function.RowNumber e = absurd (omega (arith, ap family e))
lead_is function.PercentRank e = absurd (omega (arith, ap family e))
lead_is function.CumeDist e = absurd (omega (arith, ap family e))

frames_is : {V : Type 0} (f : Function V) → family (name_of f) ≡ 1 → (x : Frames) × (f ≡ function.Frames x)
frames_is (function.Shift s) e = absurd (omega (arith, sym (shift_family s.kind) ∙ e))
frames_is (function.Frames f) e = (f, refl)
frames_is (function.Rank r) e = absurd (omega (arith, sym (rank_family r) ∙ e))
frames_is function.RowNumber e = absurd (omega (arith, e))
frames_is function.PercentRank e = absurd (omega (arith, e))
frames_is function.CumeDist e = absurd (omega (arith, e))

pub first_is : {V : Type 0} (f : Function V) → name_of f ≡ First → (x : Frames) × (f ≡ function.Frames x) × (x.row ≡ row.First)
first_is f e = let x = frames_is f (ap family e) in (x.0, x.1, first_row x.0.row (sym (ap name_of x.1) ∙ e))

pub last_is : {V : Type 0} (f : Function V) → name_of f ≡ Last → (x : Frames) × (f ≡ function.Frames x) × (x.row ≡ row.Last)
last_is f e = let x = frames_is f (ap family e) in (x.0, x.1, last_row x.0.row (sym (ap name_of x.1) ∙ e))

pub nth_is : {V : Type 0} (f : Function V) → name_of f ≡ Nth → (x : Frames) × (n : Argument) × (f ≡ function.Frames x) × (x.row ≡ row.Nth n)
nth_is f e =
    let x = frames_is f (ap family e) in
    let n = nth_row x.0.row (sym (ap name_of x.1) ∙ e) in
    (x.0, n.0, x.1, n.1)

-- what is named alone has its value
abbrev alone : {V : Type 0} → Name → Function V → Function V
alone Rank f = function.Rank rank.Basic
alone DenseRank f = function.Rank rank.Dense
alone RowNumber f = function.RowNumber
alone PercentRank f = function.PercentRank
alone CumeDist f = function.CumeDist
alone n f = f

pub alone_is : {V : Type 0} (text : V → List ℕ) (n : Name) (f : Function V) → name_of f ≡ n → 1 < family n → (f ≡ alone n f) × (arguments_text text f ≡ [])
alone_is text n (function.Shift s) e h = absurd (omega (arith, sym (shift_family s.kind) ∙ ap family e, h))
alone_is text n (function.Frames f) e h = absurd (omega (arith, sym (frames_family f.row) ∙ ap family e, h))
alone_is text n (function.Rank rank.Basic) e h = (ap (λ m. alone m (function.Rank rank.Basic)) e, refl)
alone_is text n (function.Rank rank.Dense) e h = (ap (λ m. alone m (function.Rank rank.Dense)) e, refl)
alone_is text n function.RowNumber e h = (ap (λ m. alone m function.RowNumber) e, refl)
alone_is text n function.PercentRank e h = (ap (λ m. alone m function.PercentRank) e, refl)
alone_is text n function.CumeDist e h = (ap (λ m. alone m function.CumeDist) e, refl)
