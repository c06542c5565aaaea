use Rattle.durability.proofs.Beginning.{whole}
use Rattle.durability.proofs.Lives.{durable}
use Rattle.durability.proofs.laws.durable.Goals as goal

pub returns : goal.returns
returns g c = record { durable = durable; whole = whole }
