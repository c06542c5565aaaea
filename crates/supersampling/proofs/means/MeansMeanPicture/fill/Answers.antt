use Rattle.std.proofs.Common.{◌≡◌, ◌∙◌, ◌+◌, ◌*◌, ◌≤◌, length, arith}
use Rattle.std.proofs.Math.Nat.{mul-le-mul_right}
use Rattle.supersampling.proofs.means.MeansMeanPicture.fill.Goals as goal

pub fill_tile-requires-clause-area : goal.fill_tile-requires-clause-area
fill_tile-requires-clause-area c =
    let is : c.from-width.result ≡ c.self.inside.width = c.from-width.ensures ∙ c.pixels.ensures.value in
    let down : c.args.tile.row + c.args.tile.rows ≤ c.self.inside.height = rw (← c.self.view_is) at c.requires.tile.down in
    let within : (c.args.tile.row + c.args.tile.rows) * c.self.inside.width ≤ length c.self.inside.pixels.items =
    omega (arith, mul-le-mul_right c.self.inside.width down, c.self.invariant.area) in
    rw (c.deref_mut.ensures.value, is) within
