use Rattle.symbols.proofs.Alphas.{written-alike}
use Rattle.symbols.proofs.laws.alphas.Goals as goal

pub returns : goal.returns
returns c = written-alike
