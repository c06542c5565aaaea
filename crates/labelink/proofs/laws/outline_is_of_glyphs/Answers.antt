use Rattle.labelink.proofs.Inked.{outline-of-glyphs}
use Rattle.labelink.proofs.laws.outline_is_of_glyphs.Goals as goal

pub returns : goal.returns
returns c = outline-of-glyphs
