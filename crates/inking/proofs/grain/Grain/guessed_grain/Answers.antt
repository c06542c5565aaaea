use Rattle.std.proofs.Common.{◌≡◌, ◌-◌, ◌^◌, arith}
use Rattle.std.proofs.lemmas.Int.{ints}
use Rattle.std.specs.Int.{int_div_euclid}
use lib.IntN.{pos, ◌+ℤ◌, ◌-ℤ◌, ◌*ℤ◌}
use lib.Signed.{◌≤ℤ◌}
use Rattle.geom.specs.Device.{pixel_of}
use Rattle.scanfill.proofs.Words.{word}
use Rattle.viewport.specs.View.{device_point, steepest}
use Rattle.inking.specs.Grain.{AreGrains, row_at}
use Rattle.inking.proofs.Graining.{coordinate-below, coordinate-held, flat-row, tested-row}
use Rattle.inking.proofs.grain.Grain.guessed_grain.Goals as goal

pub more-north-requires-clause-number : goal.more-north-requires-clause-number
more-north-requires-clause-number c = coordinate-held c.millionths-latitude.result c.get.result c.millionths-latitude.ensures c.get.ensures.limits

pub returns-then-is_of_row-2-clause-row : goal.returns-then-is_of_row-2-clause-row
returns-then-is_of_row-2-clause-row c =
    let view = c.args.self.now in
    let place = c.args.place in
    let guess = c.about_grain-guess.result in
    let row = (pixel_of c.args.at).j in
    let are : AreGrains view c.self.inside.across c.self.inside.down = rw c.self.view_is at c.self.invariant in
    let y : c.millionths-latitude.result ≡ place.y =
    omega (arith, ints, c.millionths-latitude.ensures, c.get.ensures.value, c.y.ensures, c.get.ensures.limits) in
    let held = coordinate-below c.millionths-latitude.result (rw c.millionths-latitude.ensures c.get.ensures.limits) in
    let words-y = word (2 ^ 31) c.millionths-latitude.result (omega arith) held in
    let words = word (2 ^ 31) guess (omega arith) c.about_grain-guess.ensures.most in
    let south : c.less-south.result ≡ place.y -ℤ pos (15 - c.args.top) *ℤ guess = rw (words-y, words, y) at c.less-south.ensures.value in
    let north : c.more-north.result ≡ place.y +ℤ pos c.args.top *ℤ guess = rw (words-y, words, y) at c.more-north.ensures.value in
    let low : row_at view (place.y -ℤ pos (15 - c.args.top) *ℤ guess) ≡ row =
    rw (word (2 ^ 40) c.less-south.result (omega arith) c.less-south.ensures.range, south) at (c.is_of_row.ensures c.if-is_of_row.true) in
    let high : row_at view (place.y +ℤ pos c.args.top *ℤ guess) ≡ row =
    rw (word (2 ^ 40) c.more-north.result (omega arith) c.more-north.ensures.range, north) at (c.is_of_row-then-is_of_row.ensures c.if-is_of_row-2.true) in
    rw words (tested-row view (place.y -ℤ pos (15 - c.args.top) *ℤ guess) (place.y +ℤ pos c.args.top *ℤ guess) row are.area low high)

pub returns-clause-row : goal.returns-clause-row
returns-clause-row c =
    let view = c.args.self.now in
    let place = c.args.place in
    let down = c.self.inside.down in
    let flat = c.flattened.result in
    let are : AreGrains view c.self.inside.across down = rw c.self.view_is at c.self.invariant in
    let words-down = word (2 ^ 31) down (omega arith) are.rows.most in
    let fits : (pos (steepest view.heights) *ℤ flat) ≤ℤ down = rw (words-down, c.heights.ensures, c.self.view_is) at c.flattened.ensures.fits in
    let top : (device_point view place).y ≡ int_div_euclid (device_point view place).y (pos 16) *ℤ pos 16 +ℤ pos c.args.top =
    rw c.requires.at at c.requires.top in
    rw (c.requires.at, word (2 ^ 31) flat (omega arith) c.flattened.ensures.most)
    (flat-row view down flat place.y c.args.top are.area are.rows c.flattened.ensures.least fits c.requires.few top)
