use Rattle.compose.proofs.Candidates.{paint-all}
use Rattle.compose.proofs.laws.candidates_paint_all.Goals as goal

pub returns : goal.returns
returns c = paint-all
