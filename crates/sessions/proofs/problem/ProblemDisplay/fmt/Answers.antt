use Rattle.std.proofs.Common.{ap, sym}
use Rattle.std.proofs.Output.{has_written_of_eq}
use Rattle.sessions.specs.Messages.{problem_text}
use Rattle.sessions.proofs.problem.ProblemDisplay.fmt.Goals as goal

pub returns-in-NoNumber-clause-writes : goal.returns-in-NoNumber-clause-writes
returns-in-NoNumber-clause-writes g c p q = has_written_of_eq _ _ _ _ _ (ap problem_text (sym c.in-NoNumber.is)) (c.write-in-NoNumber.ensures.writes p q)
