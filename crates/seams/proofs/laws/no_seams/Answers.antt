use Rattle.seams.proofs.Covering.{no-seams}
use Rattle.seams.proofs.laws.no_seams.Goals as goal

pub returns : goal.returns
returns c = no-seams c.blocks_have_whole_pixels.ensures c.alphas.ensures
