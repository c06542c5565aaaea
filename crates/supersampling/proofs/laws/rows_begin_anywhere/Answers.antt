use Rattle.supersampling.proofs.Smoothing.{row-moved}
use Rattle.supersampling.proofs.laws.rows_begin_anywhere.Goals as goal

pub returns : goal.returns
returns c = row-moved
