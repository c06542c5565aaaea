use Rattle.logarithm.proofs.Table.{numbers-law}
use Rattle.logarithm.proofs.laws.numbers_are_nearest.Goals as goal

pub returns : goal.returns
returns c = numbers-law
