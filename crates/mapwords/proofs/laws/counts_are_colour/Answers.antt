use Rattle.mapwords.proofs.Colours.{counts}
use Rattle.mapwords.proofs.laws.counts_are_colour.Goals as goal

pub returns : goal.returns
returns c = counts
