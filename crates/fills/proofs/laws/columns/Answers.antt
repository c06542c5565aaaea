use Rattle.fills.proofs.Skipping.{column-law}
use Rattle.fills.proofs.laws.columns.Goals as goal

pub returns : goal.returns
returns c = column-law
