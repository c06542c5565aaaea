use Rattle.std.proofs.Common.{◌≡◌, true, ◌%◌, ap, arith, subst}
use Rattle.std.proofs.lemmas.Int.{ints}
use lib.Signed.{◌≤ℤ◌}
use Rattle.geom.specs.Device.{DevicePoint, pixel_of}
use Rattle.geom.specs.World.{Area, Place}
use Rattle.inking.specs.Grain.{AreOfPixel}
use Rattle.inking.specs.Stroked.{PenValue, has_place}
use Rattle.inking.proofs.Graining.{in-box}
use Rattle.inking.proofs.Quieting.{quiet-alone, quiet-east, quiet-north, quiet-pixel, quiet-south, quiet-west}
use Rattle.inking.proofs.pen.Pen.quiet_at.Goals as goal

has : (box : Area) (place : Place) → box.minx ≤ℤ place.x → place.x ≤ℤ box.maxx → box.miny ≤ℤ place.y → place.y ≤ℤ box.maxy → has_place box place ≡ true
has box place a b d e = in-box box place (record { west = a; east = b; south = d; north = e })

pub returns-then-x-millionths-clause-has : goal.returns-then-x-millionths-clause-has
returns-then-x-millionths-clause-has c =
    has c.box_of.result c.args.place
    (omega (arith, ints, ap (λ (b : Area). b.minx) c.box_of.ensures, c.get.ensures.value, c.get.ensures.limits, c.x.ensures))
    (omega (
      arith,
      ints,
      ap (λ (b : Area). b.maxx) c.box_of.ensures,
      c.millionths-then-x-millionths.ensures,
      c.minx-then-x-millionths.ensures,
      c.millionths.ensures,
      c.minx.ensures,
      c.if-x-millionths.true,
      c.millionths-x.ensures,
      c.get.ensures.value,
      c.get.ensures.limits,
      c.x.ensures,
    ))
    (omega (arith, ints, ap (λ (b : Area). b.miny) c.box_of.ensures, c.get-2.ensures.value, c.get-2.ensures.limits, c.y.ensures))
    (omega (arith, ints, ap (λ (b : Area). b.maxy) c.box_of.ensures, c.get-2.ensures.value, c.get-2.ensures.limits, c.y.ensures))

pub returns-then-x-millionths-clause-quiet : goal.returns-then-x-millionths-clause-quiet
returns-then-x-millionths-clause-quiet c =
    quiet-west c.args.self.now c.self.inside.window c.box_of.result c.args.place (rw c.self.view_is at c.self.invariant)
    (omega (
      arith,
      ints,
      ap (λ (b : Area). b.maxx) c.box_of.ensures,
      c.millionths-then-x-millionths.ensures,
      c.minx-then-x-millionths.ensures,
      c.millionths.ensures,
      c.minx.ensures,
      c.if-x-millionths.true,
      c.millionths-x.ensures,
      c.get.ensures.value,
      c.get.ensures.limits,
    ))

pub returns-then-x-millionths-2-clause-has : goal.returns-then-x-millionths-2-clause-has
returns-then-x-millionths-2-clause-has c =
    let x = c.millionths-x.ensures in
    let y = c.millionths-y.ensures in
    has c.box_of-then-x-millionths-2.result c.args.place
    (omega (
      arith,
      ints,
      ap (λ (b : Area). b.minx) c.box_of-then-x-millionths-2.ensures,
      c.millionths-then-x-millionths-2.ensures,
      c.maxx-then-x-millionths-2.ensures,
      c.millionths-else-x-millionths.ensures,
      c.maxx.ensures,
      c.if-x-millionths-2.true,
      c.millionths-x.ensures,
      c.get.ensures.value,
      c.get.ensures.limits,
      c.x.ensures,
    ))
    (omega (arith, ints, ap (λ (b : Area). b.maxx) c.box_of-then-x-millionths-2.ensures, c.get.ensures.value, c.get.ensures.limits, c.x.ensures))
    (omega (arith, ints, ap (λ (b : Area). b.miny) c.box_of-then-x-millionths-2.ensures, c.get-2.ensures.value, c.get-2.ensures.limits, c.y.ensures))
    (omega (arith, ints, ap (λ (b : Area). b.maxy) c.box_of-then-x-millionths-2.ensures, c.get-2.ensures.value, c.get-2.ensures.limits, c.y.ensures))

pub returns-then-x-millionths-2-clause-quiet : goal.returns-then-x-millionths-2-clause-quiet
returns-then-x-millionths-2-clause-quiet c =
    quiet-east c.args.self.now c.self.inside.window c.box_of-then-x-millionths-2.result c.args.place (rw c.self.view_is at c.self.invariant)
    (omega (
      arith,
      ints,
      ap (λ (b : Area). b.minx) c.box_of-then-x-millionths-2.ensures,
      c.millionths-then-x-millionths-2.ensures,
      c.maxx-then-x-millionths-2.ensures,
      c.millionths-else-x-millionths.ensures,
      c.maxx.ensures,
      c.if-x-millionths-2.true,
      c.millionths-x.ensures,
      c.get.ensures.value,
      c.get.ensures.limits,
    ))

pub returns-then-y-millionths-clause-has : goal.returns-then-y-millionths-clause-has
returns-then-y-millionths-clause-has c =
    has c.box_of-then-y-millionths.result c.args.place
    (omega (arith, ints, ap (λ (b : Area). b.minx) c.box_of-then-y-millionths.ensures, c.get.ensures.value, c.get.ensures.limits, c.x.ensures))
    (omega (arith, ints, ap (λ (b : Area). b.maxx) c.box_of-then-y-millionths.ensures, c.get.ensures.value, c.get.ensures.limits, c.x.ensures))
    (omega (arith, ints, ap (λ (b : Area). b.miny) c.box_of-then-y-millionths.ensures, c.get-2.ensures.value, c.get-2.ensures.limits, c.y.ensures))
    (omega (
      arith,
      ints,
      ap (λ (b : Area). b.maxy) c.box_of-then-y-millionths.ensures,
      c.millionths-then-y-millionths.ensures,
      c.miny-then-y-millionths.ensures,
      c.millionths-else-x-millionths-2.ensures,
      c.miny.ensures,
      c.if-y-millionths.true,
      c.millionths-y.ensures,
      c.get-2.ensures.value,
      c.get-2.ensures.limits,
      c.y.ensures,
    ))

pub returns-then-y-millionths-clause-quiet : goal.returns-then-y-millionths-clause-quiet
returns-then-y-millionths-clause-quiet c =
    quiet-south c.args.self.now c.self.inside.window c.box_of-then-y-millionths.result c.args.place (rw c.self.view_is at c.self.invariant)
    (omega (
      arith,
      ints,
      ap (λ (b : Area). b.maxy) c.box_of-then-y-millionths.ensures,
      c.millionths-then-y-millionths.ensures,
      c.miny-then-y-millionths.ensures,
      c.millionths-else-x-millionths-2.ensures,
      c.miny.ensures,
      c.if-y-millionths.true,
      c.millionths-y.ensures,
      c.get-2.ensures.value,
      c.get-2.ensures.limits,
    ))

pub returns-then-y-millionths-2-clause-has : goal.returns-then-y-millionths-2-clause-has
returns-then-y-millionths-2-clause-has c =
    has c.box_of-then-y-millionths-2.result c.args.place
    (omega (arith, ints, ap (λ (b : Area). b.minx) c.box_of-then-y-millionths-2.ensures, c.get.ensures.value, c.get.ensures.limits, c.x.ensures))
    (omega (arith, ints, ap (λ (b : Area). b.maxx) c.box_of-then-y-millionths-2.ensures, c.get.ensures.value, c.get.ensures.limits, c.x.ensures))
    (omega (
      arith,
      ints,
      ap (λ (b : Area). b.miny) c.box_of-then-y-millionths-2.ensures,
      c.millionths-then-y-millionths-2.ensures,
      c.maxy-then-y-millionths-2.ensures,
      c.millionths-else-y-millionths.ensures,
      c.maxy.ensures,
      c.if-y-millionths-2.true,
      c.millionths-y.ensures,
      c.get-2.ensures.value,
      c.get-2.ensures.limits,
      c.y.ensures,
    ))
    (omega (arith, ints, ap (λ (b : Area). b.maxy) c.box_of-then-y-millionths-2.ensures, c.get-2.ensures.value, c.get-2.ensures.limits, c.y.ensures))

pub returns-then-y-millionths-2-clause-quiet : goal.returns-then-y-millionths-2-clause-quiet
returns-then-y-millionths-2-clause-quiet c =
    quiet-north c.args.self.now c.self.inside.window c.box_of-then-y-millionths-2.result c.args.place (rw c.self.view_is at c.self.invariant)
    (omega (
      arith,
      ints,
      ap (λ (b : Area). b.miny) c.box_of-then-y-millionths-2.ensures,
      c.millionths-then-y-millionths-2.ensures,
      c.maxy-then-y-millionths-2.ensures,
      c.millionths-else-y-millionths.ensures,
      c.maxy.ensures,
      c.if-y-millionths-2.true,
      c.millionths-y.ensures,
      c.get-2.ensures.value,
      c.get-2.ensures.limits,
    ))

pub returns-then-self-eq0-clause-quiet : goal.returns-then-self-eq0-clause-quiet
returns-then-self-eq0-clause-quiet c =
    let x : c.millionths-x.result ≡ c.args.place.x = omega (arith, ints, c.millionths-x.ensures, c.get.ensures.value, c.x.ensures, c.get.ensures.limits) in
    let y : c.millionths-y.result ≡ c.args.place.y = omega (arith, ints, c.millionths-y.ensures, c.get-2.ensures.value, c.y.ensures, c.get-2.ensures.limits) in
    let box = c.box_of-then-self-eq0 in
    quiet-alone c.args.self.now c.args.place box.result
    (omega (arith, ints, ap (λ (b : Area). b.minx) box.ensures, x, c.get.ensures.value, c.get.ensures.limits, c.x.ensures))
    (omega (arith, ints, ap (λ (b : Area). b.maxx) box.ensures, x, c.get.ensures.value, c.get.ensures.limits, c.x.ensures))
    (omega (arith, ints, ap (λ (b : Area). b.miny) box.ensures, y, c.get-2.ensures.value, c.get-2.ensures.limits, c.y.ensures))
    (omega (arith, ints, ap (λ (b : Area). b.maxy) box.ensures, y, c.get-2.ensures.value, c.get-2.ensures.limits, c.y.ensures))

pub returns-else-self-eq0-clause-quiet : goal.returns-else-self-eq0-clause-quiet
returns-else-self-eq0-clause-quiet c =
    let odd : c.args.self.now.width % 2 ≡ 1 = subst (λ (pen : PenValue). pen.width % 2 ≡ 1) c.self.view_is (omega (arith, c.if-self-eq0.false)) in
    let box = c.around.result in
    let here : AreOfPixel c.args.self.now.view box (pixel_of c.args.at) = subst (λ (pen : PenValue). AreOfPixel pen.view box (pixel_of c.args.at)) c.self.view_is c.around.ensures.pixel in
    quiet-pixel c.args.self.now c.args.place box odd (subst (λ (p : DevicePoint). AreOfPixel c.args.self.now.view box (pixel_of p)) c.requires here)
