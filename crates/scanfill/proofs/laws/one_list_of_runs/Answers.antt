use Rattle.scanfill.proofs.SameRuns.{runs-are-one}
use Rattle.scanfill.proofs.laws.one_list_of_runs.Goals as goal

pub returns : goal.returns
returns c = runs-are-one
