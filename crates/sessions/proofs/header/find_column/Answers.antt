use Rattle.std.proofs.Common.{rules}
use Rattle.sessions.specs.Header.{First}
use Rattle.sessions.proofs.Headers.{one_column, two_columns}
use Rattle.sessions.proofs.header.find_column.Goals as goal

pub returns-then-contains : goal.returns-then-contains
returns-then-contains c = let first : First c.args.names.now c.args.name.now c.in_ok-first.first = search rules in (search rules, two_columns c.args.names.now c.args.name.now c.in_ok-first.first first c.contains.result c.contains.ensures.cases c.if-contains.true)

pub returns : goal.returns
returns c = let first : First c.args.names.now c.args.name.now c.in_ok-first.first = search rules in one_column c.args.names.now c.args.name.now c.in_ok-first.first first c.contains.result c.contains.ensures.cases c.if-contains.false
