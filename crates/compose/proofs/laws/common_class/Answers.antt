use Rattle.compose.proofs.Classing.{common-class-law}
use Rattle.compose.proofs.laws.common_class.Goals as goal

pub returns : goal.returns
returns c = common-class-law
