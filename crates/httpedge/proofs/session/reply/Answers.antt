use Rattle.std.proofs.Common.{sym, subst, List, ℕ}
use Rattle.httpedge.specs.Response.{HasStatus, outcome_status}
use Rattle.httpedge.proofs.Sessions.{has-status}
use Rattle.httpedge.proofs.session.reply.Goals as goal

pub returns-clause-status : goal.returns-clause-status
returns-clause-status g c =
    subst (λ (n : ℕ). HasStatus c.of.result n) (sym c.status-status.ensures)
    (subst (λ (l : List ℕ). HasStatus l (outcome_status c.outcome-outcome.result)) (sym c.of.ensures) (has-status c.outcome-outcome.result c.closing.result))
