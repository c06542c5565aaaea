use Rattle.std.proofs.Common.{◌≡◌, Bool, true, false, not, if◌then◌else◌, refl, arith}
use Rattle.std.proofs.lemmas.Int.{ints}
use Rattle.std.specs.Prelude.{int_le}
use mathlib.Core.Bool.{beq}
use mir.Syntax.{w64}
use mir.Val.{to_z, of_z}
use Rattle.geom.proofs.Integers.{word-below}
use Rattle.geom.proofs.edge.Edge.crosses_height.Goals as goal

-- two truth values differ where one is the other's opposite
differ-is : (a b : Bool) → not (beq a b) ≡ (if a then not b else b)
differ-is true true = refl
differ-is true false = refl
differ-is false true = refl
differ-is false false = refl

pub returns : goal.returns
returns c =
    let height : to_z w64 (of_z w64 c.args.height) ≡ c.args.height = omega (arith, ints, c.ranges.height) in
    rw (
      ← c.self.view_is,
      c.y.ensures.value,
      c.y-2.ensures.value,
      word-below _ c.y.ensures.limits.down,
      word-below _ c.y-2.ensures.limits.down,
      height,
    ) (differ-is (int_le c.self.inside.from.y c.args.height) (int_le c.self.inside.to.y c.args.height))
