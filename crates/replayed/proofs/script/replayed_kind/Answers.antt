use Rattle.std.proofs.Common.{IfOk, string_bytes, sym, subst}
use Rattle.replayed.specs.Replays.{TellsKind}
use Rattle.replayed.proofs.script.replayed_kind.Goals as goal

pub returns-in-Instant : goal.returns-in-Instant
returns-in-Instant c = subst (λ k. IfOk c.replayed_at.result (λ s. TellsKind k c.args.head c.args.rest.now (string_bytes s))) (sym c.in-Instant.is) c.replayed_at.ensures

pub returns-in-Pseudonym : goal.returns-in-Pseudonym
returns-in-Pseudonym c = subst (λ k. IfOk c.replayed_at-in-Pseudonym.result (λ s. TellsKind k c.args.head c.args.rest.now (string_bytes s))) (sym c.in-Pseudonym.is) c.replayed_at-in-Pseudonym.ensures

pub returns-in-Code : goal.returns-in-Code
returns-in-Code c = subst (λ k. IfOk c.replayed_at-in-Code.result (λ s. TellsKind k c.args.head c.args.rest.now (string_bytes s))) (sym c.in-Code.is) c.replayed_at-in-Code.ensures

pub returns-in-Outcome : goal.returns-in-Outcome
returns-in-Outcome c = subst (λ k. IfOk c.replayed_at-in-Outcome.result (λ s. TellsKind k c.args.head c.args.rest.now (string_bytes s))) (sym c.in-Outcome.is) c.replayed_at-in-Outcome.ensures

pub returns-in-InstantCode : goal.returns-in-InstantCode
returns-in-InstantCode c = subst (λ k. IfOk c.replayed_at-in-InstantCode.result (λ s. TellsKind k c.args.head c.args.rest.now (string_bytes s))) (sym c.in-InstantCode.is) c.replayed_at-in-InstantCode.ensures

pub returns-in-OutcomeLogin : goal.returns-in-OutcomeLogin
returns-in-OutcomeLogin c = subst (λ k. IfOk c.replayed_at-in-OutcomeLogin.result (λ s. TellsKind k c.args.head c.args.rest.now (string_bytes s))) (sym c.in-OutcomeLogin.is) c.replayed_at-in-OutcomeLogin.ensures
