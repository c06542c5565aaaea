use Rattle.labelink.proofs.Inked.{outline-is-as-wide}
use Rattle.labelink.proofs.laws.outline_is_as_wide.Goals as goal

pub returns : goal.returns
returns c = outline-is-as-wide
