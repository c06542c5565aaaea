use Rattle.std.proofs.Common.{◌≡◌, ◌-◌, ◌^◌, arith}
use Rattle.std.proofs.lemmas.Int.{ints}
use Rattle.std.specs.Int.{int_div_euclid}
use lib.IntN.{pos, ◌+ℤ◌, ◌-ℤ◌, ◌*ℤ◌}
use Rattle.geom.specs.Device.{pixel_of}
use Rattle.scanfill.proofs.Words.{word}
use Rattle.viewport.specs.View.{device_point}
use Rattle.inking.specs.Grain.{AreGrains, AreOfRow}
use Rattle.inking.proofs.Graining.{around-has, around-pixel, coordinate-below, coordinate-held, grains_around}
use Rattle.inking.proofs.grain.Grain.around.Goals as goal

pub less-requires-clause-number : goal.less-requires-clause-number
less-requires-clause-number c = coordinate-held c.millionths-x.result c.get.result c.millionths-x.ensures c.get.ensures.limits

pub less-requires-2-clause-number : goal.less-requires-2-clause-number
less-requires-2-clause-number c = coordinate-held c.millionths-y.result c.get-2.result c.millionths-y.ensures c.get-2.ensures.limits

pub more-requires-clause-number : goal.more-requires-clause-number
more-requires-clause-number c = coordinate-held c.millionths-x.result c.get.result c.millionths-x.ensures c.get.ensures.limits

pub more-requires-2-clause-number : goal.more-requires-2-clause-number
more-requires-2-clause-number c = coordinate-held c.millionths-y.result c.get-2.result c.millionths-y.ensures c.get-2.ensures.limits

pub returns-clause-has : goal.returns-clause-has
returns-clause-has c =
    let across = c.self.inside.across in
    let down = c.grain_at-down.result in
    let left = c.into_pixel-left.result in
    let top = c.into_pixel-top.result in
    let are : AreGrains c.args.self.now across c.self.inside.down = rw c.self.view_is at c.self.invariant in
    let x : c.millionths-x.result ≡ c.args.place.x = omega (arith, ints, c.millionths-x.ensures, c.get.ensures.value, c.x.ensures, c.get.ensures.limits) in
    let y : c.millionths-y.result ≡ c.args.place.y = omega (arith, ints, c.millionths-y.ensures, c.get-2.ensures.value, c.y.ensures, c.get-2.ensures.limits) in
    let east = coordinate-below c.millionths-x.result (rw c.millionths-x.ensures c.get.ensures.limits) in
    let north = coordinate-below c.millionths-y.result (rw c.millionths-y.ensures c.get-2.ensures.limits) in
    let words-x = word (2 ^ 31) c.millionths-x.result (omega arith) east in
    let words-y = word (2 ^ 31) c.millionths-y.result (omega arith) north in
    let words-across = word (2 ^ 31) across (omega arith) are.columns.most in
    let words-down = word (2 ^ 31) down (omega arith) c.grain_at-down.ensures.most in
    let minx : c.less.result ≡ c.args.place.x -ℤ pos left *ℤ across = rw (words-x, words-across, x) at c.less.ensures.value in
    let miny : c.less-2.result ≡ c.args.place.y -ℤ pos (15 - top) *ℤ down = rw (words-y, words-down, y) at c.less-2.ensures.value in
    let maxx : c.more.result ≡ c.args.place.x +ℤ pos (15 - left) *ℤ across = rw (words-x, words-across, x) at c.more.ensures.value in
    let maxy : c.more-2.result ≡ c.args.place.y +ℤ pos top *ℤ down = rw (words-y, words-down, y) at c.more-2.ensures.value in
    let box : c.box_of.result ≡ grains_around across down c.args.place left top =
    rw (
      word (2 ^ 40) c.less.result (omega arith) c.less.ensures.range,
      word (2 ^ 40) c.less-2.result (omega arith) c.less-2.ensures.range,
      word (2 ^ 40) c.more.result (omega arith) c.more.ensures.range,
      word (2 ^ 40) c.more-2.result (omega arith) c.more-2.ensures.range,
      minx,
      miny,
      maxx,
      maxy,
    ) at c.box_of.ensures in
    rw box (around-has across down c.args.place left top are.columns.least c.grain_at-down.ensures.least)

pub returns-clause-pixel : goal.returns-clause-pixel
returns-clause-pixel c =
    let across = c.self.inside.across in
    let down = c.grain_at-down.result in
    let left = c.into_pixel-left.result in
    let top = c.into_pixel-top.result in
    let are : AreGrains c.args.self.now across c.self.inside.down = rw c.self.view_is at c.self.invariant in
    let x : c.millionths-x.result ≡ c.args.place.x = omega (arith, ints, c.millionths-x.ensures, c.get.ensures.value, c.x.ensures, c.get.ensures.limits) in
    let y : c.millionths-y.result ≡ c.args.place.y = omega (arith, ints, c.millionths-y.ensures, c.get-2.ensures.value, c.y.ensures, c.get-2.ensures.limits) in
    let east = coordinate-below c.millionths-x.result (rw c.millionths-x.ensures c.get.ensures.limits) in
    let north = coordinate-below c.millionths-y.result (rw c.millionths-y.ensures c.get-2.ensures.limits) in
    let words-x = word (2 ^ 31) c.millionths-x.result (omega arith) east in
    let words-y = word (2 ^ 31) c.millionths-y.result (omega arith) north in
    let words-across = word (2 ^ 31) across (omega arith) are.columns.most in
    let words-down = word (2 ^ 31) down (omega arith) c.grain_at-down.ensures.most in
    let minx : c.less.result ≡ c.args.place.x -ℤ pos left *ℤ across = rw (words-x, words-across, x) at c.less.ensures.value in
    let miny : c.less-2.result ≡ c.args.place.y -ℤ pos (15 - top) *ℤ down = rw (words-y, words-down, y) at c.less-2.ensures.value in
    let maxx : c.more.result ≡ c.args.place.x +ℤ pos (15 - left) *ℤ across = rw (words-x, words-across, x) at c.more.ensures.value in
    let maxy : c.more-2.result ≡ c.args.place.y +ℤ pos top *ℤ down = rw (words-y, words-down, y) at c.more-2.ensures.value in
    let box : c.box_of.result ≡ grains_around across down c.args.place left top =
    rw (
      word (2 ^ 40) c.less.result (omega arith) c.less.ensures.range,
      word (2 ^ 40) c.less-2.result (omega arith) c.less-2.ensures.range,
      word (2 ^ 40) c.more.result (omega arith) c.more.ensures.range,
      word (2 ^ 40) c.more-2.result (omega arith) c.more-2.ensures.range,
      minx,
      miny,
      maxx,
      maxy,
    ) at c.box_of.ensures in
    let point = device_point c.args.self.now c.args.place in
    let column : point.x ≡ int_div_euclid point.x (pos 16) *ℤ pos 16 +ℤ pos left =
    rw (c.x-2.ensures.value, word (2 ^ 47) c.args.at.x (omega arith) c.x-2.ensures.limits.across, c.requires) at c.into_pixel-left.ensures.value in
    let row : AreOfRow c.args.self.now (c.args.place.y -ℤ pos (15 - top) *ℤ down) (c.args.place.y +ℤ pos top *ℤ down) (pixel_of point).j =
    rw c.requires at c.grain_at-down.ensures.row in
    rw (box, c.requires)
    (around-pixel c.args.self.now across down c.args.place left top are.area are.columns c.into_pixel-left.ensures.most column row)
