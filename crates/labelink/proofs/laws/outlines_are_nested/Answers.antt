use Rattle.labelink.proofs.Inked.{outlines-are-nested}
use Rattle.labelink.proofs.laws.outlines_are_nested.Goals as goal

pub returns : goal.returns
returns c = outlines-are-nested
