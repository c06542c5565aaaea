use Rattle.bdffont.proofs.Written.{written-row-is-read}
use Rattle.bdffont.proofs.laws.written_row_is_read.Goals as goal

pub returns : goal.returns
returns c = written-row-is-read
