use Rattle.blocking.proofs.Answered.{all-served, part-served}
use Rattle.blocking.proofs.connection.serve_connection.Goals as goal

pub returns-in-Ok-clause-served : goal.returns-in-Ok-clause-served
returns-in-Ok-clause-served g c = all-served g.A.Asks.answers g.W.Sink _ _ c.exchange.result c.exchange.ensures.exchanged

pub returns-in-Ok-clause-left : goal.returns-in-Ok-clause-left
returns-in-Ok-clause-left g c = part-served g.A.Asks.answers g.W.Sink _ _ c.exchange.result c.exchange.ensures.stopped
