use Rattle.supersampling.proofs.Tiling.{drawn-is-smooth}
use Rattle.supersampling.proofs.laws.drawn_is_smooth.Goals as goal

pub returns : goal.returns
returns c = drawn-is-smooth
