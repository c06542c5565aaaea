use Rattle.std.proofs.Common.{◌^◌, arith}
use Rattle.scanfill.proofs.Words.{wide, wide-held, word, word-held}
use Rattle.scanfill.proofs.row_crossing.reach.Goals as goal

pub returns-clause-value : goal.returns-clause-value
returns-clause-value c = rw (
  wide (2 ^ 97) c.minus.result (omega arith) c.minus.ensures.range,
  c.minus.ensures.value,
  wide (2 ^ 96) c.product-right.result (omega arith) c.product-right.ensures.range,
  c.product-right.ensures.value,
  wide (2 ^ 96) c.product-down.result (omega arith) c.product-down.ensures.range,
  c.product-down.ensures.value,
  wide (2 ^ 48) c.difference.result (omega arith) c.difference.ensures.range,
  c.difference.ensures.value,
  wide (2 ^ 48) c.difference-2.result (omega arith) c.difference-2.ensures.range,
  c.difference-2.ensures.value,
  word (2 ^ 48) c.rise.result (omega arith) c.rise.ensures.range,
  c.rise.ensures.value,
  word (2 ^ 48) c.run.result (omega arith) c.run.ensures.range,
  c.run.ensures.value,
  word (2 ^ 47) c.row_centre.result (omega arith) c.row_centre.ensures.range,
  c.row_centre.ensures.value,
  c.x.ensures.value,
  word (2 ^ 47) c.low_end-low.result.x (omega arith) c.x.ensures.limits.across,
  c.y.ensures.value,
  word (2 ^ 47) c.low_end-low.result.y (omega arith) c.y.ensures.limits.down,
  c.low_end-low.ensures,
)

pub difference-requires-clause-b : goal.difference-requires-clause-b
difference-requires-clause-b c = rw c.x.ensures.value (word-held (2 ^ 47) c.low_end-low.result.x (omega arith) c.x.ensures.limits.across)

pub product-right-requires-clause-a : goal.product-right-requires-clause-a
product-right-requires-clause-a c = wide-held (2 ^ 48) c.difference.result (omega arith) c.difference.ensures.range

pub product-right-requires-clause-b : goal.product-right-requires-clause-b
product-right-requires-clause-b c = word-held (2 ^ 48) c.rise.result (omega arith) c.rise.ensures.range

pub difference-requires-2-clause-a : goal.difference-requires-2-clause-a
difference-requires-2-clause-a c = word-held (2 ^ 47) c.row_centre.result (omega arith) c.row_centre.ensures.range

pub difference-requires-2-clause-b : goal.difference-requires-2-clause-b
difference-requires-2-clause-b c = rw c.y.ensures.value (word-held (2 ^ 47) c.low_end-low.result.y (omega arith) c.y.ensures.limits.down)

pub product-down-requires-clause-a : goal.product-down-requires-clause-a
product-down-requires-clause-a c = wide-held (2 ^ 48) c.difference-2.result (omega arith) c.difference-2.ensures.range

pub product-down-requires-clause-b : goal.product-down-requires-clause-b
product-down-requires-clause-b c = word-held (2 ^ 48) c.run.result (omega arith) c.run.ensures.range

pub minus-requires-clause-a : goal.minus-requires-clause-a
minus-requires-clause-a c = wide-held (2 ^ 96) c.product-right.result (omega arith) c.product-right.ensures.range

pub minus-requires-clause-b : goal.minus-requires-clause-b
minus-requires-clause-b c = wide-held (2 ^ 96) c.product-down.result (omega arith) c.product-down.ensures.range

pub returns-clause-range : goal.returns-clause-range
returns-clause-range c = wide-held (2 ^ 97) c.minus.result (omega arith) c.minus.ensures.range
