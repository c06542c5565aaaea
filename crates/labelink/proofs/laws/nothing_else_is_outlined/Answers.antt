use Rattle.labelink.proofs.Inked.{nothing-else-is-outlined}
use Rattle.labelink.proofs.laws.nothing_else_is_outlined.Goals as goal

pub returns : goal.returns
returns c = nothing-else-is-outlined
