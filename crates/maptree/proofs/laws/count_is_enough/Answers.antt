use Rattle.maptree.proofs.Blocks.{block-enough}
use Rattle.maptree.proofs.laws.count_is_enough.Goals as goal

pub returns : goal.returns
returns c = block-enough
