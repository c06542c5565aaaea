use Rattle.turns.proofs.Runs.{room-invites}
use Rattle.turns.proofs.laws.room_invites.Goals as goal

pub returns : goal.returns
returns g c = room-invites
