use Rattle.batches.proofs.Writing.{all-back}
use Rattle.batches.proofs.laws.written_is_read.Goals as goal

pub returns : goal.returns
returns c = all-back
