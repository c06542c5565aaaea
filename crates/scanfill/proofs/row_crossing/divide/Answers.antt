use Rattle.std.proofs.Common.{◌≡◌, ◌^◌, ◌∙◌, arith}
use Rattle.std.proofs.lemmas.Int.{ints}
use Rattle.std.specs.Int.{int_div_euclid}
use lib.IntN.{ℤ, ◌-ℤ◌, ◌*ℤ◌}
use mir.Syntax.{w64, w128}
use mir.Val.{to_z, of_z}
use Rattle.geom.specs.Range.{IsBelow}
use Rattle.scanfill.proofs.Quotients.{left-below}
use Rattle.scanfill.proofs.Words.{fits-opposite, fits-wide, fits-word, left-is, opposite-is, product-below, product-is, wide, word}
use Rattle.scanfill.proofs.row_crossing.divide.Goals as goal

-- the quotient by its definition, in machine integers
quotient-is : (reach whole from quotient : ℤ) → IsBelow (2 ^ 97) reach → IsBelow (2 ^ 52) whole → from ≡ to_z w64 (of_z w64 whole) →
    quotient ≡ int_div_euclid (to_z w128 (of_z w128 reach)) (to_z w128 (of_z w128 from)) → (from ≡ whole) × (quotient ≡ int_div_euclid reach whole)
quotient-is reach whole from quotient below_reach below_whole is by =
    let same : from ≡ whole = is ∙ word (2 ^ 52) whole (omega arith) below_whole in
    (same, by ∙ rw (same, wide (2 ^ 97) reach (omega arith) below_reach, wide (2 ^ 52) whole (omega arith) below_whole))

pub overflow_mul-result : goal.overflow_mul-result
overflow_mul-result c =
    let (whole, quotient) = quotient-is c.args.reach c.args.whole c.from-whole.result c.div_euclid-quotient.result c.requires.reach c.requires.whole c.from-whole.ensures c.div_euclid-quotient.ensures in
    let q = int_div_euclid c.args.reach c.args.whole in
    rw (whole, quotient, wide (2 ^ 52) c.args.whole (omega arith) c.requires.whole, wide (2 ^ 44) q (omega arith) c.requires.column)
    (fits-wide (2 ^ 96) (q *ℤ c.args.whole) (omega arith) (product-below (2 ^ 44) (2 ^ 52) q c.args.whole c.requires.column c.requires.whole))

pub overflow_cast-result : goal.overflow_cast-result
overflow_cast-result c =
    let (whole, quotient) = quotient-is c.args.reach c.args.whole c.from-whole.result c.div_euclid-quotient.result c.requires.reach c.requires.whole c.from-whole.ensures c.div_euclid-quotient.ensures in
    let q = int_div_euclid c.args.reach c.args.whole in
    rw (quotient, wide (2 ^ 44) q (omega arith) c.requires.column) (fits-word (2 ^ 44) q (omega arith) c.requires.column)

pub overflow_sub-result : goal.overflow_sub-result
overflow_sub-result c =
    let (whole, quotient) = quotient-is c.args.reach c.args.whole c.from-whole.result c.div_euclid-quotient.result c.requires.reach c.requires.whole c.from-whole.ensures c.div_euclid-quotient.ensures in
    let q = int_div_euclid c.args.reach c.args.whole in
    rw (quotient, wide (2 ^ 44) q (omega arith) c.requires.column, word (2 ^ 44) q (omega arith) c.requires.column) (fits-opposite q c.requires.column)

pub overflow_sub-result-2 : goal.overflow_sub-result-2
overflow_sub-result-2 c =
    let (whole, quotient) = quotient-is c.args.reach c.args.whole c.from-whole.result c.div_euclid-quotient.result c.requires.reach c.requires.whole c.from-whole.ensures c.div_euclid-quotient.ensures in
    let q = int_div_euclid c.args.reach c.args.whole in
    rw (
      whole,
      quotient,
      product-is (2 ^ 44) (2 ^ 52) q c.args.whole (omega arith) (omega arith) (omega arith) c.requires.column c.requires.whole,
      wide (2 ^ 97) c.args.reach (omega arith) c.requires.reach,
    ) (fits-wide (2 ^ 52) (c.args.reach -ℤ q *ℤ c.args.whole) (omega arith) (left-below (2 ^ 52) c.args.reach c.args.whole c.requires.some c.requires.whole))

pub overflow_cast-result-2 : goal.overflow_cast-result-2
overflow_cast-result-2 c =
    let (whole, quotient) = quotient-is c.args.reach c.args.whole c.from-whole.result c.div_euclid-quotient.result c.requires.reach c.requires.whole c.from-whole.ensures c.div_euclid-quotient.ensures in
    let below = left-below (2 ^ 52) c.args.reach c.args.whole c.requires.some c.requires.whole in
    rw (whole, quotient, left-is c.args.reach (int_div_euclid c.args.reach c.args.whole) c.args.whole c.requires.reach c.requires.column c.requires.whole below)
    (omega (arith, ints))

pub returns : goal.returns
returns c =
    let (whole, quotient) = quotient-is c.args.reach c.args.whole c.from-whole.result c.div_euclid-quotient.result c.requires.reach c.requires.whole c.from-whole.ensures c.div_euclid-quotient.ensures in
    let below = left-below (2 ^ 52) c.args.reach c.args.whole c.requires.some c.requires.whole in
    let column : IsBelow (2 ^ 44) (int_div_euclid c.args.reach c.args.whole) = c.requires.column in
    rw (
      whole,
      quotient,
      left-is c.args.reach (int_div_euclid c.args.reach c.args.whole) c.args.whole c.requires.reach c.requires.column c.requires.whole below,
      word (2 ^ 52) (c.args.reach -ℤ int_div_euclid c.args.reach c.args.whole *ℤ c.args.whole) (omega arith) below,
      opposite-is (int_div_euclid c.args.reach c.args.whole) column,
    )
