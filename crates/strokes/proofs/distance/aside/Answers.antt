use Rattle.std.proofs.Common.{◌^◌, arith}
use Rattle.scanfill.proofs.Words.{wide, word}
use Rattle.strokes.proofs.distance.aside.Goals as goal

pub returns-clause-value : goal.returns-clause-value
returns-clause-value c = rw (
  wide (2 ^ 97) c.minus.result (omega arith) c.minus.ensures.range,
  c.minus.ensures.value,
  wide (2 ^ 96) c.product.result (omega arith) c.product.ensures.range,
  c.product.ensures.value,
  wide (2 ^ 96) c.product-2.result (omega arith) c.product-2.ensures.range,
  c.product-2.ensures.value,
  word (2 ^ 48) c.down.result (omega arith) c.down.ensures.range,
  c.down.ensures.value,
  word (2 ^ 48) c.across.result (omega arith) c.across.ensures.range,
  c.across.ensures.value,
  word (2 ^ 48) c.across-2.result (omega arith) c.across-2.ensures.range,
  c.across-2.ensures.value,
  word (2 ^ 48) c.down-2.result (omega arith) c.down-2.ensures.range,
  c.down-2.ensures.value,
)
