use Rattle.crsaxes.proofs.Exchange.{axes-are-exchanged}
use Rattle.crsaxes.proofs.laws.axes_are_exchanged.Goals as goal

pub returns : goal.returns
returns c = axes-are-exchanged
