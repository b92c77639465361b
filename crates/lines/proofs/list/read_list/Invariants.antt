use Rattle.std.proofs.Common.{◌≡◌, ℕ, ◌-◌, List, ◌∷◌, ◌++◌, codes, length, vec_items}
use Rattle.lines.specs.Cursors.{Onward, ahead, passed}
use Rattle.lines.specs.Fits.{ListFits}
use Rattle.lines.specs.Reads.{ReadsItems}
use Rattle.lines.specs.Texts.{joined}
use Rattle.lines.proofs.Lists.{Left}
use Rattle.lines.proofs.list.read_list.Given as goal

-- where one item or more are shown, some are read and the others are left; and those that are read, with any behind them, are what the text shows
abbrev pub invariant-loop-items : goal.invariant-loop-items
invariant-loop-items g l =
    Onward l.initial.cursor l.cursor
    × ((y : _) (ys : List _) (rest : List ℕ) → ListFits g.T.Text.fits (y ∷ ys) → ahead l.initial.cursor ≡ joined g.T.Show.text (y ∷ ys) ++ (codes "]" ++ rest) → Left g.T.Text.fits g.T.Show.text (y ∷ ys) (vec_items l.items) l.cursor rest)
    × ((bs : List ℕ) (y : _) (ys : List _) → ReadsItems g.T.Text.reads bs (y ∷ ys) → ReadsItems g.T.Text.reads (passed l.initial.cursor l.cursor ++ bs) (vec_items l.items ++ (y ∷ ys)))

abbrev pub decreases-loop-items : goal.decreases-loop-items
decreases-loop-items g l = length l.cursor.text.now - l.cursor.at
