use Rattle.std.proofs.Common.{◌^◌, arith}
use Rattle.scanfill.proofs.Words.{wide, word}
use Rattle.strokes.proofs.RoundNear.{sum-nonneg}
use Rattle.strokes.proofs.distance.apart.Goals as goal

pub returns-clause-least : goal.returns-clause-least
returns-clause-least c = rw (
  wide (2 ^ 97) c.plus.result (omega arith) c.plus.ensures.range,
  c.plus.ensures.value,
  wide (2 ^ 96) c.product.result (omega arith) c.product.ensures.range,
  c.product.ensures.value,
  wide (2 ^ 96) c.product-2.result (omega arith) c.product-2.ensures.range,
  c.product-2.ensures.value,
  word (2 ^ 48) c.across-across.result (omega arith) c.across-across.ensures.range,
  word (2 ^ 48) c.down-down.result (omega arith) c.down-down.ensures.range,
) (sum-nonneg c.across-across.result c.down-down.result)
