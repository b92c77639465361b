-- Why a table gets no answers, from why its parts give none.
use Rattle.std.proofs.Common.{ℕ, Bool, List, [], Option, refl, subst, sym, ⊎_elim}
use Rattle.column.specs.declared.fault.Fault.{Fault}
use Rattle.options.specs.declared.asked.Asked.{Asked}
use Rattle.options.specs.declared.frame.RowsFrame.{RowsFrame}
use Rattle.turns.specs.declared.layout.Turn.{Turn}
use Rattle.desk.specs.declared.refusal.Refusal.{Refusal}
use Rattle.desk.specs.declared.refusal.Refusal.TheVariants.{Memory, Unread, Column, NoValue, NoDefault, NoValues, Call, Differs}
use Rattle.desk.specs.Columns.{NotFound, Sheet}
use Rattle.desk.specs.Refusals.{Ran, Why}
use Rattle.table.specs.declared.content.Content.{Content}
use Rattle.table.specs.declared.content.Content.TheVariants.{Plain as Borrowed}
use Rattle.table.specs.Columns.{ColumnOf}
use Rattle.desk.specs.Cells.{NoCells}
use Rattle.desk.specs.Stops.{OneRefuses, Refuses}

pub why_found : (s : Sheet) (asked : Asked) (name : _) (r : Refusal) → NotFound s.names name r → Why s asked r
why_found s asked name r h = let (why, e, n) = h in subst (Why s asked) (sym e) n

pub why_ran : (s : Sheet) (asked : Asked) (r : Refusal) → Ran r → Why s asked r
why_ran s asked Memory h = tt
why_ran s asked (Call fault) h = tt
why_ran s asked (Unread unread) h = absurd h
why_ran s asked (Column name why) h = absurd h
why_ran s asked (NoValue row column kind) h = absurd h
why_ran s asked (NoDefault text kind) h = absurd h
why_ran s asked NoValues h = absurd h
why_ran s asked (Differs row) h = absurd h

pub refuses_ran : (o : Option Fault) (r : Refusal) → Refuses o r → Ran r
refuses_ran o Memory h = tt
refuses_ran o (Call fault) h = tt
refuses_ran o (Unread unread) h = absurd h
refuses_ran o (Column name why) h = absurd h
refuses_ran o (NoValue row column kind) h = absurd h
refuses_ran o (NoDefault text kind) h = absurd h
refuses_ran o NoValues h = absurd h
refuses_ran o (Differs row) h = absurd h

one_ran : {V : Type 0} (same : V → V → Bool) (wf wg : Bool) (frame : Option RowsFrame) (cells : List (Option V)) (parts : List (List Turn)) (r : Refusal) → OneRefuses same wf wg frame cells parts r → Ran r
one_ran same wf wg frame cells parts r h =
    ⊎_elim
    (λ e. subst Ran (sym e) tt)
    (λ o. ⊎_elim (λ p. refuses_ran _ r p) (λ p. refuses_ran _ r p.2) o.2)
    h

pub why_one : (s : Sheet) (asked : Asked) {V : Type 0} (same : V → V → Bool) (wf wg : Bool) (frame : Option RowsFrame) (cells : List (Option V)) (parts : List (List Turn)) (r : Refusal) → OneRefuses same wf wg frame cells parts r → Why s asked r
why_one s asked same wf wg frame cells parts r h = why_ran s asked r (one_ran same wf wg frame cells parts r h)

pub why_cells : {V : Type 0} (says : List ℕ → V → Type 0) (s : Sheet) (asked : Asked) (contents : List Content) (column : ℕ) (r : Refusal) → ColumnOf s.width s.fields column contents → NoCells says contents column r → Why s asked r
why_cells says s asked contents column r of h =
    ⊎_elim
    (λ e. subst (Why s asked) (sym e) tt)
    (λ f.
    let told = f.here (Borrowed (record { ref_ptr = (0, 0); now = [] })) in
    subst (Why s asked) (sym told.1.1) (contents, of, (f.place, refl, f.within, λ d. (f.here d).0)))
    h
