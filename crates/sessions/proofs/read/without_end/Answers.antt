use Rattle.std.proofs.lemmas.Str.Pattern.{strip_suffix_char}
use Rattle.sessions.proofs.Lines.{stripped_by}
use Rattle.sessions.proofs.read.without_end.Goals as goal

pub returns : goal.returns
returns c = stripped_by c.args.mark c.args.text c.unwrap_or.result c.strip_suffix.result (strip_suffix_char c.args.mark c.args.text.now c.strip_suffix.result c.strip_suffix.ensures.cases c.requires) c.unwrap_or.ensures
