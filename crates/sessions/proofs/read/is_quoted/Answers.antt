use Rattle.std.proofs.Common.{◌≡◌, ℕ, true, arith, lit<}
use Rattle.std.proofs.lemmas.Str.Pattern.{contains_char}
use Rattle.sessions.proofs.read.is_quoted.Goals as goal

pub returns-clause-no : goal.returns-clause-no
returns-clause-no c e k l q = let t : c.contains.result ≡ true = (contains_char 34 c.args.line.now c.contains.result c.contains.ensures.cases (lit< tt)).1 k l q in let z : ◌≡◌ {A = ℕ} 0 1 = cc in absurd (omega arith)
