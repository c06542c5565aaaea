use Rattle.std.proofs.Common.{◌≡◌, ◌^◌, arith}
use Rattle.std.proofs.lemmas.Int.{ints}
use Rattle.std.specs.Int.{int_div_euclid}
use lib.IntN.{ℤ, pos, ◌-ℤ◌, ◌*ℤ◌}
use lib.Signed.{◌<ℤ◌}
use mir.Syntax.{w64}
use mir.Val.{to_z, of_z}
use Rattle.geom.specs.Range.{IsBelow}
use Rattle.geom.proofs.Quotients.{quotient-below}
use Rattle.scanfill.proofs.Quotients.{left-below}
use Rattle.scanfill.proofs.Words.{fits-word, word}
use Rattle.scanfill.proofs.row_crossing.rest_of.Goals as goal

-- a product that leaves so little of a number is not much larger than it
near : (run product : ℤ) → IsBelow (2 ^ 48) run → IsBelow (2 ^ 48) (run -ℤ product) → IsBelow (2 ^ 49) product
near run product h left = record { above = omega (arith, ints, h, left); below = omega (arith, ints, h, left) }

-- what is left is below the rise, and the product near the run
left : (run quotient rise : ℤ) → IsBelow (2 ^ 48) run → IsBelow (2 ^ 48) rise → pos 0 <ℤ rise → quotient ≡ int_div_euclid run rise →
    IsBelow (2 ^ 48) (run -ℤ quotient *ℤ rise) × IsBelow (2 ^ 49) (quotient *ℤ rise)
left run quotient rise h most some is =
    let less : IsBelow (2 ^ 48) (run -ℤ quotient *ℤ rise) = rw is (left-below (2 ^ 48) run rise some most) in
    (less, near run (quotient *ℤ rise) h less)

quotient-held : (run quotient rise : ℤ) → IsBelow (2 ^ 48) run → pos 0 <ℤ rise → quotient ≡ int_div_euclid run rise → to_z w64 (of_z w64 quotient) ≡ quotient
quotient-held run quotient rise h some is = word (2 ^ 48) quotient (omega arith) (rw is (quotient-below (2 ^ 48) run rise some h))

pub overflow_mul-result : goal.overflow_mul-result
overflow_mul-result c =
    let (less, product) = left c.args.run c.args.quotient c.args.rise c.requires.run c.requires.rise c.requires.some c.requires.quotient in
    rw (
      quotient-held c.args.run c.args.quotient c.args.rise c.requires.run c.requires.some c.requires.quotient,
      word (2 ^ 48) c.args.rise (omega arith) c.requires.rise,
    ) (fits-word (2 ^ 49) (c.args.quotient *ℤ c.args.rise) (omega arith) product)

pub overflow_sub-result : goal.overflow_sub-result
overflow_sub-result c =
    let (less, product) = left c.args.run c.args.quotient c.args.rise c.requires.run c.requires.rise c.requires.some c.requires.quotient in
    rw (
      quotient-held c.args.run c.args.quotient c.args.rise c.requires.run c.requires.some c.requires.quotient,
      word (2 ^ 48) c.args.rise (omega arith) c.requires.rise,
      word (2 ^ 49) (c.args.quotient *ℤ c.args.rise) (omega arith) product,
      word (2 ^ 48) c.args.run (omega arith) c.requires.run,
    ) (fits-word (2 ^ 48) (c.args.run -ℤ c.args.quotient *ℤ c.args.rise) (omega arith) less)

-- what machine integers hold of the remainder
held : (run quotient rise : ℤ) → IsBelow (2 ^ 48) run → IsBelow (2 ^ 48) rise → pos 0 <ℤ rise → quotient ≡ int_div_euclid run rise →
    to_z w64 (of_z w64 (to_z w64 (of_z w64 run) -ℤ to_z w64 (of_z w64 (to_z w64 (of_z w64 quotient) *ℤ to_z w64 (of_z w64 rise))))) ≡ run -ℤ quotient *ℤ rise
held run quotient rise h most some is =
    let (less, product) = left run quotient rise h most some is in
    rw (
      quotient-held run quotient rise h some is,
      word (2 ^ 48) rise (omega arith) most,
      word (2 ^ 49) (quotient *ℤ rise) (omega arith) product,
      word (2 ^ 48) run (omega arith) h,
    ) (word (2 ^ 48) (run -ℤ quotient *ℤ rise) (omega arith) less)

pub returns-clause-value : goal.returns-clause-value
returns-clause-value c = held c.args.run c.args.quotient c.args.rise c.requires.run c.requires.rise c.requires.some c.requires.quotient

pub returns-clause-range : goal.returns-clause-range
returns-clause-range c =
    let (less, product) = left c.args.run c.args.quotient c.args.rise c.requires.run c.requires.rise c.requires.some c.requires.quotient in
    rw (held c.args.run c.args.quotient c.args.rise c.requires.run c.requires.rise c.requires.some c.requires.quotient) less
