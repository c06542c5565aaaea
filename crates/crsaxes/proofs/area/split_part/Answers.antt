use Rattle.crsaxes.proofs.Parts.{next-part}
use Rattle.crsaxes.proofs.area.split_part.Goals as goal

pub returns : goal.returns
returns c = next-part c.args.text.now c.split_comma.result c.split_comma.ensures
