use Rattle.symbols.proofs.Files.{files}
use Rattle.symbols.proofs.laws.files.Goals as goal

pub returns : goal.returns
returns c = files
