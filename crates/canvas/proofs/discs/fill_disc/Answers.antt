use Rattle.std.proofs.Common.{◌≡◌, ◌∙◌, ℕ, ◌+◌, ◌*◌, ◌<◌, Bool, false, Some, length, sym, arith}
use lib.IntN.{pos}
use Rattle.clip.specs.EdgeClass.{has_row}
use Rattle.clip.specs.declared.rows.RowRange.{RowRange}
use Rattle.geom.specs.Device.{pixel_centre}
use Rattle.strokes.specs.Disc.{DiscValue, covers_disc}
use Rattle.canvas.proofs.TwoSpans.{two-filled, two-within}
use Rattle.canvas.proofs.Filling.{rows-all, rows-more}
use Rattle.canvas.proofs.discs.fill_disc.Goals as goal

-- whether a disc covers a pixel
abbrev covered : DiscValue → ℕ → ℕ → Bool
covered d i j = covers_disc d (pixel_centre (pos i) (pos j))

pub fill_row-requires-clause-within : goal.fill_row-requires-clause-within
fill_row-requires-clause-within c =
    let wide : c.pixels-width.result ≡ c.loop-row.canvas.width = c.pixels-width.ensures.value ∙ (c.width.ensures.value ∙ sym c.loop-row.invariant.filled.width) in
    two-within c.columns.result.0 c.columns.result.1 c.loop-row.canvas.width c.columns.ensures.left (omega (arith, c.columns.ensures.left_end, wide))
    c.columns.ensures.right (omega (arith, c.columns.ensures.right_end, wide))

pub loop-row-preserved : goal.loop-row-preserved
loop-row-preserved c =
    let before = c.loop-row.invariant.filled in
    let wide : c.pixels-width.result ≡ c.loop-row.canvas.width = c.pixels-width.ensures.value ∙ (c.width.ensures.value ∙ sym before.width) in
    let area : length c.loop-row.canvas.pixels ≡ c.loop-row.canvas.width * c.loop-row.canvas.height = rw (before.area, before.width, before.height) c.width.ensures.area in
    let one = two-filled (covered c.args.disc) (λ i j. Some c.args.colour) c.columns.result.0 c.columns.result.1 c.loop-row.row c.loop-row.canvas c.fill_row.new.self
    area (λ i h. c.columns.ensures.all i (omega (arith, h, wide))) c.fill_row.ensures in
    record {
      first = omega (arith, c.loop-row.invariant.first);
      filled = rows-more (covered c.args.disc) (λ i j. Some c.args.colour) c.rows-rows.result.from c.loop-row.row (c.loop-row.row + 1)
          c.args.canvas.now c.loop-row.canvas c.fill_row.new.self c.loop-row.invariant.first (omega arith) before one;
    }

pub returns : goal.returns
returns c =
    let rows : RowRange = record { from = c.rows-rows.result.from; to = c.rows-rows.result.to } in
    let none : (i j : ℕ) → i < c.args.canvas.now.width → j < c.args.canvas.now.height → has_row rows j ≡ false → covered c.args.disc i j ≡ false = λ i j p q out.
    c.rows-rows.ensures.none i j (omega (arith, p, c.pixels-width.ensures.value, c.width.ensures.value)) (omega (arith, q, c.pixels-height.ensures.value, c.height.ensures)) out in
    rows-all (covered c.args.disc) (λ i j. Some c.args.colour) rows c.loop-row.row
    c.args.canvas.now c.loop-row.canvas c.width.ensures.area (omega (arith, c.loop-row-test.false)) none c.loop-row.invariant.filled
