use Rattle.mapwords.proofs.Colours.{hex_digits}
use Rattle.mapwords.proofs.laws.hex_digits_are_colour.Goals as goal

pub returns : goal.returns
returns c = hex_digits
