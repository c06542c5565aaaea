use Rattle.expressions.proofs.CompleteParts.{one-tree}
use Rattle.expressions.proofs.laws.logic_has_one_tree.Goals as goal

pub returns : goal.returns
returns c = one-tree
