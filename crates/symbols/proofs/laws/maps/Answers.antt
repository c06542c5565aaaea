use Rattle.symbols.proofs.Maps.{maps}
use Rattle.symbols.proofs.laws.maps.Goals as goal

pub returns : goal.returns
returns c = maps
