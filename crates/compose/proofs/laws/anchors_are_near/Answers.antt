use Rattle.compose.proofs.NearAnchors.{anchors-near}
use Rattle.compose.proofs.laws.anchors_are_near.Goals as goal

pub returns : goal.returns
returns c = anchors-near
