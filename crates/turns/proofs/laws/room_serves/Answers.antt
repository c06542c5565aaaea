use Rattle.turns.proofs.Runs.{room-serves}
use Rattle.turns.proofs.laws.room_serves.Goals as goal

pub returns : goal.returns
returns g c = room-serves g.A.Asks.answers g.T.Transport
