use Rattle.std.proofs.Common.{arith}
use Rattle.std.proofs.lemmas.Int.{ints}
use Rattle.featureinfo.proofs.few_edges.row_from.Goals as goal

pub overflow_add-y : goal.overflow_add-y
overflow_add-y c = omega (arith, ints, c.requires)
