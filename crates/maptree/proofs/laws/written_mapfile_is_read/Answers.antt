use Rattle.maptree.proofs.Written.{written-law}
use Rattle.maptree.proofs.laws.written_mapfile_is_read.Goals as goal

pub returns : goal.returns
returns c = written-law
