use Rattle.geom.proofs.OneText.{one-text}
use Rattle.geom.proofs.laws.one_text.Goals as goal

pub returns : goal.returns
returns c = one-text
