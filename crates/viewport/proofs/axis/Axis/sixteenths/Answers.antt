use Rattle.std.proofs.Common.{◌≡◌, ◌^◌, arith, pos, ◌*ℤ◌, ◌+ℤ◌, ◌-ℤ◌, ap}
use Rattle.std.proofs.lemmas.Int.{ints}
use Rattle.std.specs.Int.{int_div_euclid}
use Rattle.geom.specs.Range.{IsBelow}
use Rattle.viewport.specs.Axis.{AxisValue}
use Rattle.viewport.proofs.Products.{axis-below, axis-is}
use Rattle.geom.proofs.Integers.{word-below}
use Rattle.viewport.proofs.axis.Axis.sixteenths.Goals as goal

pub returns-clause-value : goal.returns-clause-value
returns-clause-value c =
    let i = c.self.inside in
    let size : IsBelow (2 ^ 47) c.args.part = record { above = omega (arith, ints); below = omega (arith, ints) } in
    let lift : pos c.lifted.result ≡ c.args.part +ℤ pos i.lift = rw (word-below c.args.part size) at c.lifted.ensures.value in
    let is = axis-is i.times i.whole i.first i.lifts i.lift i.back i.factor c.lifted.result c.scaled.result c.args.part c.self.invariant lift c.lifted.ensures.range c.scaled.ensures.value in
    let below : IsBelow (2 ^ 47) (int_div_euclid (pos i.times *ℤ c.args.part) (pos i.whole) -ℤ pos i.first) =
    axis-below i.times i.whole i.first c.args.part c.self.invariant.some c.self.invariant.coarse c.self.invariant.first_below c.requires in
    rw (c.lowered.ensures, is, word-below _ below) (ap (λ (v : AxisValue). int_div_euclid (pos v.times *ℤ c.args.part) (pos v.whole) -ℤ pos v.first) c.self.view_is)

pub returns-clause-range : goal.returns-clause-range
returns-clause-range c =
    let i = c.self.inside in
    let size : IsBelow (2 ^ 47) c.args.part = record { above = omega (arith, ints); below = omega (arith, ints) } in
    let lift : pos c.lifted.result ≡ c.args.part +ℤ pos i.lift = rw (word-below c.args.part size) at c.lifted.ensures.value in
    let is = axis-is i.times i.whole i.first i.lifts i.lift i.back i.factor c.lifted.result c.scaled.result c.args.part c.self.invariant lift c.lifted.ensures.range c.scaled.ensures.value in
    let below : IsBelow (2 ^ 47) (int_div_euclid (pos i.times *ℤ c.args.part) (pos i.whole) -ℤ pos i.first) =
    axis-below i.times i.whole i.first c.args.part c.self.invariant.some c.self.invariant.coarse c.self.invariant.first_below c.requires in
    rw (c.lowered.ensures, is, word-below _ below) below
