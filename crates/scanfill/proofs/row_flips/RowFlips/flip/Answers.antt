use Rattle.std.proofs.Common.{◌≡◌, length, arith}
use Rattle.std.proofs.lemmas.Int.{ints}
use mir.Syntax.{w128}
use mir.Val.{to_z, of_z}
use Rattle.scanfill.proofs.Flipping.{flipped-from, flipped-past}
use Rattle.scanfill.proofs.row_flips.RowFlips.flip.Goals as goal

pub returns-then-at-width : goal.returns-then-at-width
returns-then-at-width c =
    let xs = c.self.inside.flips.items in
    let width : c.len-width.result ≡ length xs = omega (arith, c.len-width.ensures, c.self.inside.flips.ok.0) in
    let column : to_z w128 (of_z w128 c.from.result) ≡ c.args.column = omega (arith, ints, c.from.ensures, c.ranges.column) in
    let cut = rw (column, width) at c.clamped-at.ensures in
    let at : c.from-then-at-width.result ≡ c.from-then-at-width-2.result = omega (arith, c.from-then-at-width.ensures, c.from-then-at-width-2.ensures) in
    let flipped = flipped-from xs c.clamped-at.result c.args.column c.index.result.now (omega (arith, width)) cut (rw c.from-then-at-width.ensures at c.index.ensures) in
    rw (c.from-then-at-width-2.ensures, ← c.self.view_is) flipped

pub returns-else-at-width : goal.returns-else-at-width
returns-else-at-width c =
    let xs = c.self.inside.flips.items in
    let width : c.len-width.result ≡ length xs = omega (arith, c.len-width.ensures, c.self.inside.flips.ok.0) in
    let column : to_z w128 (of_z w128 c.from.result) ≡ c.args.column = omega (arith, ints, c.from.ensures, c.ranges.column) in
    let cut = rw (column, width) at c.clamped-at.ensures in
    rw (← c.self.view_is) (flipped-past xs c.args.column (omega (arith, cut, width)))
