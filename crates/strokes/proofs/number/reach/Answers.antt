use Rattle.std.proofs.Common.{◌*◌, ◌^◌, ◌≤◌, ℕ, arith}
use Rattle.std.proofs.Math.Nat.{mul-le-mul_right}
use Rattle.std.proofs.lemmas.Int.{unsigned_abs-mul}
use Rattle.std.specs.Int.RustNames.{unsigned_abs}
use lib.IntN.{ℤ, pos, ◌*ℤ◌}
use Rattle.geom.proofs.Integers.{size-below}
use Rattle.geom.specs.Range.{IsBelow}
use Rattle.scanfill.proofs.Words.{below-size, fits-word, word}
use Rattle.strokes.proofs.number.reach.Goals as goal

-- at most 2,048 times a number
times-below : (n : ℕ) (z : ℤ) → n ≤ 2048 → IsBelow (2 ^ 48) z → IsBelow (2 ^ 59) (pos n *ℤ z)
times-below n z most h = below-size (2 ^ 59) (pos n *ℤ z) (rw (unsigned_abs-mul (pos n) z) (omega (arith, mul-le-mul_right {m = n} {n = 2048} (unsigned_abs z) most, size-below (2 ^ 48) z h)))

pub overflow_mul-result : goal.overflow_mul-result
overflow_mul-result c =
    let n = 16 * c.args.width in
    rw (
      c.from-2.ensures,
      c.from.ensures,
      word (2 ^ 12) (pos n) (omega arith) (below-size (2 ^ 12) (pos n) (omega arith)),
      word (2 ^ 48) c.args.rise (omega arith) c.requires.rise,
    ) (fits-word (2 ^ 59) (pos n *ℤ c.args.rise) (omega arith) (times-below n c.args.rise (omega arith) c.requires.rise))

pub returns-clause-value : goal.returns-clause-value
returns-clause-value c =
    let n = 16 * c.args.width in
    rw (
      c.from-2.ensures,
      c.from.ensures,
      word (2 ^ 12) (pos n) (omega arith) (below-size (2 ^ 12) (pos n) (omega arith)),
      word (2 ^ 48) c.args.rise (omega arith) c.requires.rise,
      word (2 ^ 59) (pos n *ℤ c.args.rise) (omega arith) (times-below n c.args.rise (omega arith) c.requires.rise),
    )

pub returns-clause-range : goal.returns-clause-range
returns-clause-range c =
    let n = 16 * c.args.width in
    rw (
      c.from-2.ensures,
      c.from.ensures,
      word (2 ^ 12) (pos n) (omega arith) (below-size (2 ^ 12) (pos n) (omega arith)),
      word (2 ^ 48) c.args.rise (omega arith) c.requires.rise,
      word (2 ^ 59) (pos n *ℤ c.args.rise) (omega arith) (times-below n c.args.rise (omega arith) c.requires.rise),
    ) (times-below n c.args.rise (omega arith) c.requires.rise)
