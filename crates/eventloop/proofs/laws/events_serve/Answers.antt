use Rattle.eventloop.proofs.Events.{events-serve}
use Rattle.eventloop.proofs.laws.events_serve.Goals as goal

pub returns : goal.returns
returns g c = events-serve g.A.Asks.answers g.T.Transport
