use Rattle.std.proofs.Common.{Some, ◌≡◌, ◌∙◌, ◌+◌, ◌*◌, ℕ, length, sym, arith}
use Rattle.canvas.proofs.Filling.{filled-runs, rows-all, rows-more, runs-fit}
use Rattle.canvas.proofs.rows.paint_cover.Goals as goal

pub fill_row-requires-clause-within : goal.fill_row-requires-clause-within
fill_row-requires-clause-within g c =
    let wide : c.width-width.result ≡ c.loop-row.canvas.width = c.width-width.ensures.value ∙ sym c.loop-row.invariant.filled.width in
    runs-fit (λ (i : ℕ). g.C.Cover.covered c.args.cover.now i c.loop-row.row) c.as_slice.result.now c.row.new.out c.loop-row.canvas.width c.as_slice.ensures (rw wide at c.in_ok-row.ensures.ok)

pub loop-row-preserved : goal.loop-row-preserved
loop-row-preserved g c =
    let before = c.loop-row.invariant.filled in
    let wide : c.width-width.result ≡ c.loop-row.canvas.width = c.width-width.ensures.value ∙ sym before.width in
    let area : length c.loop-row.canvas.pixels ≡ c.loop-row.canvas.width * c.loop-row.canvas.height = rw (before.area, before.width, before.height) c.width-width.ensures.area in
    let one = filled-runs (g.C.Cover.covered c.args.cover.now) (λ i j. Some c.args.colour) c.as_slice.result.now c.row.new.out c.loop-row.row c.loop-row.canvas c.fill_row.new.self
    area c.as_slice.ensures (rw wide at c.in_ok-row.ensures.ok) c.fill_row.ensures in
    record {
      first = omega (arith, c.loop-row.invariant.first);
      filled = rows-more (g.C.Cover.covered c.args.cover.now) (λ i j. Some c.args.colour) c.rows-rows.result.from c.loop-row.row (c.loop-row.row + 1)
          c.args.canvas.now c.loop-row.canvas c.fill_row.new.self c.loop-row.invariant.first (omega arith) before one;
    }

pub returns : goal.returns
returns g c = rows-all (g.C.Cover.covered c.args.cover.now) (λ i j. Some c.args.colour) c.rows-rows.result c.loop-row.row
    c.args.canvas.now c.loop-row.canvas c.width-width.ensures.area (omega (arith, c.loop-row-test.false))
    (rw (c.width-width.ensures.value, c.height-height.ensures) at c.rows-rows.ensures.none) c.loop-row.invariant.filled
