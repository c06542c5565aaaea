use Rattle.std.proofs.Common.{◌^◌, refl, arith}
use Rattle.scanfill.proofs.Words.{wide, word}
use Rattle.strokes.proofs.chords.is_apart.Goals as goal

pub returns : goal.returns
returns c = rw (
  wide (2 ^ 123) c.sum.result (omega arith) c.sum.ensures.range,
  c.sum.ensures.value,
  wide (2 ^ 122) c.four.result (omega arith) c.four.ensures.range,
  c.four.ensures.value,
  wide (2 ^ 96) c.product.result (omega arith) c.product.ensures.range,
  c.product.ensures.value,
  wide (2 ^ 96) c.product-2.result (omega arith) c.product-2.ensures.range,
  c.product-2.ensures.value,
  wide (2 ^ 122) c.four-2.result (omega arith) c.four-2.ensures.range,
  c.four-2.ensures.value,
  wide (2 ^ 120) c.args.limit (omega arith) c.requires.limit,
  word (2 ^ 20) c.args.root (omega arith) c.requires.root,
  word (2 ^ 10) c.args.length (omega arith) c.requires.length,
) refl
