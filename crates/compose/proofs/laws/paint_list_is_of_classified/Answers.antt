use Rattle.compose.proofs.Walking.{paint-list-of-classified}
use Rattle.compose.proofs.laws.paint_list_is_of_classified.Goals as goal

pub returns : goal.returns
returns c = paint-list-of-classified
