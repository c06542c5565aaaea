use Rattle.scanfill.proofs.Shares.{runs-inside}
use Rattle.scanfill.proofs.laws.runs.Goals as goal

pub returns : goal.returns
returns c = runs-inside
