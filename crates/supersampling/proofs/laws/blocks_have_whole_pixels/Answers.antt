use Rattle.supersampling.proofs.Smoothing.{blocks-have-whole-pixels}
use Rattle.supersampling.proofs.laws.blocks_have_whole_pixels.Goals as goal

pub returns : goal.returns
returns c = blocks-have-whole-pixels
