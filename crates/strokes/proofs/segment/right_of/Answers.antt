use Rattle.std.proofs.Common.{◌^◌, arith}
use Rattle.scanfill.proofs.Words.{wide, wide-held, word, word-held}
use Rattle.strokes.proofs.segment.right_of.Goals as goal

pub returns-clause-value : goal.returns-clause-value
returns-clause-value c = rw (
  wide (2 ^ 97) c.minus.result (omega arith) c.minus.ensures.range,
  c.minus.ensures.value,
  wide (2 ^ 96) c.product.result (omega arith) c.product.ensures.range,
  c.product.ensures.value,
  wide (2 ^ 96) c.product-2.result (omega arith) c.product-2.ensures.range,
  c.product-2.ensures.value,
  word (2 ^ 48) c.difference.result (omega arith) c.difference.ensures.range,
  c.difference.ensures.value,
  word (2 ^ 48) c.difference-2.result (omega arith) c.difference-2.ensures.range,
  c.difference-2.ensures.value,
  word (2 ^ 48) c.rise.result (omega arith) c.rise.ensures.range,
  c.rise.ensures.value,
  word (2 ^ 48) c.run.result (omega arith) c.run.ensures.range,
  c.run.ensures.value,
  c.x.ensures.value,
  word (2 ^ 47) c.args.point.x (omega arith) c.x.ensures.limits.across,
  c.x-2.ensures.value,
  word (2 ^ 47) c.low_end-low.result.x (omega arith) c.x-2.ensures.limits.across,
  c.y.ensures.value,
  word (2 ^ 47) c.args.point.y (omega arith) c.y.ensures.limits.down,
  c.y-2.ensures.value,
  word (2 ^ 47) c.low_end-low.result.y (omega arith) c.y-2.ensures.limits.down,
  c.low_end-low.ensures,
)

pub difference-requires-clause-a : goal.difference-requires-clause-a
difference-requires-clause-a c = rw c.x.ensures.value (word-held (2 ^ 47) c.args.point.x (omega arith) c.x.ensures.limits.across)

pub difference-requires-clause-b : goal.difference-requires-clause-b
difference-requires-clause-b c = rw c.x-2.ensures.value (word-held (2 ^ 47) c.low_end-low.result.x (omega arith) c.x-2.ensures.limits.across)

pub difference-requires-2-clause-a : goal.difference-requires-2-clause-a
difference-requires-2-clause-a c = rw c.y.ensures.value (word-held (2 ^ 47) c.args.point.y (omega arith) c.y.ensures.limits.down)

pub difference-requires-2-clause-b : goal.difference-requires-2-clause-b
difference-requires-2-clause-b c = rw c.y-2.ensures.value (word-held (2 ^ 47) c.low_end-low.result.y (omega arith) c.y-2.ensures.limits.down)

pub product-requires-clause-a : goal.product-requires-clause-a
product-requires-clause-a c = word-held (2 ^ 48) c.difference.result (omega arith) c.difference.ensures.range

pub product-requires-clause-b : goal.product-requires-clause-b
product-requires-clause-b c = word-held (2 ^ 48) c.rise.result (omega arith) c.rise.ensures.range

pub product-requires-2-clause-a : goal.product-requires-2-clause-a
product-requires-2-clause-a c = word-held (2 ^ 48) c.difference-2.result (omega arith) c.difference-2.ensures.range

pub product-requires-2-clause-b : goal.product-requires-2-clause-b
product-requires-2-clause-b c = word-held (2 ^ 48) c.run.result (omega arith) c.run.ensures.range

pub minus-requires-clause-a : goal.minus-requires-clause-a
minus-requires-clause-a c = wide-held (2 ^ 96) c.product.result (omega arith) c.product.ensures.range

pub minus-requires-clause-b : goal.minus-requires-clause-b
minus-requires-clause-b c = wide-held (2 ^ 96) c.product-2.result (omega arith) c.product-2.ensures.range

pub returns-clause-range : goal.returns-clause-range
returns-clause-range c = wide-held (2 ^ 97) c.minus.result (omega arith) c.minus.ensures.range
