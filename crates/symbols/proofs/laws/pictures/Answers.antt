use Rattle.symbols.proofs.Pictures.{pictures}
use Rattle.symbols.proofs.laws.pictures.Goals as goal

pub returns : goal.returns
returns c = pictures
