use Rattle.std.proofs.Common.{◌≡◌, ◌∙◌, ℕ, ◌+◌, ◌*◌, length, refl, sym, arith}
use lib.IntN.{pos}
use Rattle.symbols.specs.Stamp.{StampValue, covers_pixel, pixel_at}
use Rattle.canvas.specs.Shapes.{Stamped}
use Rattle.canvas.proofs.Filling.{rows-all, rows-more}
use Rattle.canvas.proofs.Painting.{painted-shape}
use Rattle.canvas.proofs.Stamps.{stamped-row}
use Rattle.inking.proofs.points.stamp.Goals as goal

pub colour_row-requires-clause-fits : goal.colour_row-requires-clause-fits
colour_row-requires-clause-fits c =
    omega (arith, c.row_pixels.ensures.within, c.pixels.ensures.value, c.width-width.ensures.value, c.loop-row.invariant.filled.width)

pub loop-row-preserved : goal.loop-row-preserved
loop-row-preserved c =
    let s : StampValue = c.new-stamp.result in
    let before = c.loop-row.invariant.filled in
    let wide : c.pixels.result ≡ c.loop-row.canvas.width = c.pixels.ensures.value ∙ (c.width-width.ensures.value ∙ sym before.width) in
    let area : length c.loop-row.canvas.pixels ≡ c.loop-row.canvas.width * c.loop-row.canvas.height = rw (before.area, before.width, before.height) c.width-width.ensures.area in
    let one = stamped-row s c.row_pixels.result.from c.row_pixels.result.colours.now c.loop-row.row c.loop-row.canvas c.colour_row.new.self area
    (λ i h. c.row_pixels.ensures.pixels i (omega (arith, wide))) c.colour_row.ensures in
    record {
      first = omega (arith, c.loop-row.invariant.first);
      filled = rows-more (λ (i j : ℕ). covers_pixel s (pos i) (pos j)) (λ (i j : ℕ). pixel_at s (pos i) (pos j)) c.rows-rows.result.from c.loop-row.row (c.loop-row.row + 1)
          c.args.canvas.now c.loop-row.canvas c.colour_row.new.self c.loop-row.invariant.first (omega arith) before one;
    }

pub returns : goal.returns
returns c =
    let s : StampValue = c.new-stamp.result in
    let filled = rows-all (λ (i j : ℕ). covers_pixel s (pos i) (pos j)) (λ (i j : ℕ). pixel_at s (pos i) (pos j)) c.rows-rows.result c.loop-row.row
    c.args.canvas.now c.loop-row.canvas c.width-width.ensures.area (omega (arith, c.loop-row-test.false))
    (rw (c.width-width.ensures.value, c.height-height.ensures) at c.rows-rows.ensures.none) c.loop-row.invariant.filled in
    painted-shape (Stamped (record { pixmap = c.args.pixmap.now; pixel = c.args.pixel })) (λ (i j : ℕ). covers_pixel s (pos i) (pos j))
    (λ (i j : ℕ). pixel_at s (pos i) (pos j)) c.args.canvas.now c.loop-row.canvas (λ i j. rw c.new-stamp.ensures refl) (λ i j. rw c.new-stamp.ensures refl) filled
