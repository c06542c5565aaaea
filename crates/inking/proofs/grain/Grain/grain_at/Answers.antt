use Rattle.std.proofs.Common.{◌≡◌, ◌∙◌, ◌^◌, sym, subst, arith}
use Rattle.std.proofs.lemmas.Int.{ints}
use Rattle.std.specs.Int.{int_div_euclid}
use lib.IntN.{pos, ◌+ℤ◌, ◌*ℤ◌}
use lib.Signed.{◌≤ℤ◌}
use Rattle.scanfill.proofs.Words.{word}
use Rattle.viewport.specs.View.{device_point, steepest}
use Rattle.viewport.specs.declared.heights.Heights.{Heights}
use Rattle.viewport.specs.declared.heights.Heights.TheVariants as heights
use Rattle.inking.specs.Grain.{AreGrains}
use Rattle.inking.proofs.Graining.{flat-row}
use Rattle.inking.proofs.grain.Grain.grain_at.Goals as goal

pub returns-in-Latitudes-clause-row : goal.returns-in-Latitudes-clause-row
returns-in-Latitudes-clause-row c =
    let view = c.args.self.now in
    let place = c.args.place in
    let down = c.self.inside.down in
    let are : AreGrains view c.self.inside.across down = rw c.self.view_is at c.self.invariant in
    let measured : c.heights.result ≡ view.heights = rw c.self.view_is at c.heights.ensures in
    let latitudes : heights.Latitudes ≡ view.heights = sym c.in-Latitudes.is ∙ measured in
    let fits : (pos (steepest view.heights) *ℤ down) ≤ℤ down = subst (λ (h : Heights). (pos (steepest h) *ℤ down) ≤ℤ down) latitudes (omega (arith, ints)) in
    let top : (device_point view place).y ≡ int_div_euclid (device_point view place).y (pos 16) *ℤ pos 16 +ℤ pos c.args.top =
    rw c.requires.at at c.requires.top in
    rw (c.requires.at, word (2 ^ 31) down (omega arith) are.rows.most)
    (flat-row view down down place.y c.args.top are.area are.rows are.rows.least fits c.requires.few top)

pub returns-in-Mercator-clause-row : goal.returns-in-Mercator-clause-row
returns-in-Mercator-clause-row c =
    rw (word (2 ^ 31) c.guessed_grain.result (omega arith) c.guessed_grain.ensures.most) c.guessed_grain.ensures.row
