use Rattle.std.proofs.Common.{◌≡◌, ℕ, ◌+◌, ◌-◌, ◌*◌, ◌<◌, ◌≤◌, arith, refl, length}
use Rattle.supersampling.proofs.Tiled.{columns-there, one-more-row, part-is, part-size, part-wide, rows-there}
use Rattle.supersampling.proofs.tile_rows.fill_tile.Goals as goal

pub slice_bounds-smooth_row-count : goal.slice_bounds-smooth_row-count
slice_bounds-smooth_row-count c =
    rw (c.from-factor.ensures, c.from.ensures)
    (omega (arith, rows-there c.args.fine.factor c.loop-row.row c.args.tile.rows c.args.fine.width (length c.args.fine.pixels.now) (omega (arith, c.loop-row-test.true)) c.requires.rows))

pub slice_bounds-smooth_row-start : goal.slice_bounds-smooth_row-start
slice_bounds-smooth_row-start c =
    rw (c.from-factor.ensures, c.from.ensures)
    (omega (arith, rows-there c.args.fine.factor c.loop-row.row c.args.tile.rows c.args.fine.width (length c.args.fine.pixels.now) (omega (arith, c.loop-row-test.true)) c.requires.rows))

pub smooth_row-requires-clause-rows : goal.smooth_row-requires-clause-rows
smooth_row-requires-clause-rows c =
    rw (part-size (c.from-factor.result * c.from.result * c.args.fine.width) c.args.fine.pixels.now, c.from-factor.ensures, c.from.ensures)
    (omega (arith, rows-there c.args.fine.factor c.loop-row.row c.args.tile.rows c.args.fine.width (length c.args.fine.pixels.now) (omega (arith, c.loop-row-test.true)) c.requires.rows))

pub loop-row-preserved : goal.loop-row-preserved
loop-row-preserved c =
    let less : c.loop-row.row < c.args.tile.rows = omega (arith, c.loop-row-test.true) in
    let place : ℕ = (c.from-in-loop-row.result + c.from-in-loop-row-2.result) * c.args.width + c.from-in-loop-row-3.result in
    let start : place ≡ (c.args.tile.row + c.loop-row.row) * c.args.width + c.args.tile.column =
    rw (c.from-in-loop-row.ensures, c.from-in-loop-row-2.ensures, c.from-in-loop-row-3.ensures) refl in
    let many : place + c.from-columns.result - place ≡ c.args.tile.columns = omega (arith, c.from-columns.ensures) in
    let within : place + c.args.tile.columns ≤ length c.loop-row.pixels =
    omega (
      arith,
      start,
      c.loop-row.invariant.area,
      columns-there c.args.tile.row c.loop-row.row c.args.tile.rows c.args.tile.column c.args.tile.columns c.args.width (length c.args.pixels.now) less c.requires.across c.requires.area,
    ) in
    let wide = part-wide place (place + c.from-columns.result - place) c.args.tile.columns c.loop-row.pixels c.smooth_row.new.row many within c.smooth_row.auto.row in
    one-more-row c.args.fine c.args.width c.args.tile c.loop-row.row place (place + c.from-columns.result - place)
    c.args.pixels.now c.loop-row.pixels c.smooth_row.new.row c.requires.across c.requires.area less start many wide
    (λ i left. rw (part-is (c.from-factor.result * c.from.result * c.args.fine.width) c.args.fine.pixels.now, c.from-factor.ensures, c.from.ensures)
    at (c.smooth_row.ensures i (omega (arith, wide, many, c.smooth_row.auto.row))))
    c.loop-row.invariant
