use Rattle.gridindex.proofs.Rising.{answers-law}
use Rattle.gridindex.proofs.laws.answers.Goals as goal

pub returns : goal.returns
returns c = answers-law
