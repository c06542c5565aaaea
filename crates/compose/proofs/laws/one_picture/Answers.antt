use Rattle.compose.proofs.Finishing.{one-picture}
use Rattle.compose.proofs.laws.one_picture.Goals as goal

pub returns : goal.returns
returns c = one-picture
