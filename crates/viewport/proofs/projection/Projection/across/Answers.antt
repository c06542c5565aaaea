use Rattle.std.proofs.Common.{◌≡◌, ◌∙◌, ◌*◌, ◌^◌, arith, pos, ◌*ℤ◌, ◌-ℤ◌, ap}
use Rattle.std.proofs.lemmas.Int.{ints}
use Rattle.std.specs.Int.{int_div_euclid}
use Rattle.geom.specs.Range.{IsBelow}
use Rattle.geom.specs.World.{Area}
use Rattle.viewport.proofs.Products.{axis-sixteenths}
use Rattle.geom.proofs.Integers.{word-below}
use Rattle.viewport.proofs.projection.Projection.across.Goals as goal

pub returns-clause-value : goal.returns-clause-value
returns-clause-value c =
    let v = c.self.inside.view in
    let size : IsBelow (2 ^ 47) c.difference.result = record { above = omega (arith, ints, c.difference.ensures.range.above); below = omega (arith, ints, c.difference.ensures.range.below) } in
    let part : c.difference.result ≡ c.args.longitude -ℤ v.area.minx = rw (c.difference.ensures.value, c.get.ensures.value, c.minx.ensures) (ap (λ (a : Area). c.args.longitude -ℤ a.minx) c.area-area.ensures.value) in
    rw (word-below c.sixteenths.result c.sixteenths.ensures.range, ← c.self.view_is)
    (axis-sixteenths v.columns (16 * v.left) (c.args.longitude -ℤ v.area.minx) v.area.minx v.area.maxx c.sixteenths.result c.self.inside.across c.self.invariant.across c.self.invariant.limits.area.columns
    (c.sixteenths.ensures.value ∙ ap (λ z. int_div_euclid (pos c.self.inside.across.times *ℤ z) (pos c.self.inside.across.whole) -ℤ pos c.self.inside.across.first) (word-below c.difference.result size ∙ part)))
