use Rattle.std.proofs.Common.{◌≡◌, ◌∙◌, ◌*◌, ◌^◌, arith, pos, ◌*ℤ◌, ◌-ℤ◌, ap}
use Rattle.std.proofs.lemmas.Int.{ints}
use Rattle.std.specs.Int.{int_div_euclid}
use Rattle.geom.specs.Range.{IsBelow}
use Rattle.geom.specs.World.{Area}
use Rattle.viewport.specs.View.{height_of}
use Rattle.viewport.proofs.Products.{axis-sixteenths}
use Rattle.geom.proofs.Integers.{word-below}
use Rattle.viewport.proofs.projection.Projection.down.Goals as goal

pub returns-clause-value : goal.returns-clause-value
returns-clause-value c =
    let v = c.self.inside.view in
    let size : IsBelow (2 ^ 47) c.below.result = record { above = omega (arith, ints, c.below.ensures.range.above); below = omega (arith, ints, c.below.ensures.range.below) } in
    let height : IsBelow (2 ^ 47) c.of.result = record { above = omega (arith, ints, c.of.ensures.range.least); below = omega (arith, ints, c.of.ensures.range.most) } in
    let part : c.below.result ≡ v.area.maxy -ℤ height_of v.heights c.args.latitude =
    rw (c.below.ensures.value, word-below c.of.result height, c.of.ensures.value, c.heights.ensures, c.maxy.ensures) (ap (λ (a : Area). a.maxy -ℤ height_of v.heights c.args.latitude) c.area-area.ensures.value) in
    rw (word-below c.sixteenths.result c.sixteenths.ensures.range, ← c.self.view_is)
    (axis-sixteenths v.rows (16 * v.top) (v.area.maxy -ℤ height_of v.heights c.args.latitude) v.area.miny v.area.maxy c.sixteenths.result c.self.inside.down c.self.invariant.down c.self.invariant.limits.area.rows
    (c.sixteenths.ensures.value ∙ ap (λ z. int_div_euclid (pos c.self.inside.down.times *ℤ z) (pos c.self.inside.down.whole) -ℤ pos c.self.inside.down.first) (word-below c.below.result size ∙ part)))
