use Rattle.labelink.proofs.Inked.{ink-is-outlined}
use Rattle.labelink.proofs.laws.ink_is_outlined.Goals as goal

pub returns : goal.returns
returns c = ink-is-outlined
