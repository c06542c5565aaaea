use Rattle.compose.proofs.NearThings.{paints-near}
use Rattle.compose.proofs.laws.paints_near.Goals as goal

pub returns : goal.returns
returns c = paints-near
