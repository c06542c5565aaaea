use Rattle.compose.proofs.Found.{found-label-all}
use Rattle.compose.proofs.laws.found_label_all.Goals as goal

pub returns : goal.returns
returns c = found-label-all
