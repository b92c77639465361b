use Rattle.std.proofs.Common.{◌≡◌, ℕ, IfSome, slice_index_or, inl, inr, rules}
use Rattle.std.proofs.lemmas.Result.{IfErr-weaker}
use Rattle.sessions.specs.Faults.{LinesRefused}
use Rattle.sessions.proofs.Lines.{lines_refused}
use Rattle.sessions.proofs.read.read_lines.Goals as goal

pub returns-clause-refused : goal.returns-clause-refused
returns-clause-refused c = IfErr-weaker c.try_collect.result _ _ (λ r h. elim h [
  | inl full ↦ let x : LinesRefused c.args.columns.now c.args.lines.now r = search rules in x
  | inr s ↦
      let m = c.map.ensures.runs s.0 s.0.seen s.1 in
      let numbered : (j : ℕ) → IfSome (m.0.at j) (λ y. (y.0 ≡ j) × (y.1.now ≡ slice_index_or c.args.lines.now j y.1.now)) = search rules in
      lines_refused c.args.columns.now c.args.lines.now m.0.at s.0.at s.2.0 numbered (m.2.2 (search rules)).1 (λ y v h. search rules) (search rules) s.2.3 r s.2.2
]) c.try_collect.ensures.err
