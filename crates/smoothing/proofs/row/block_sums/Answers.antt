use Rattle.std.proofs.Common.{◌+◌, ◌*◌, ◌≤◌, length, refl, arith}
use Rattle.smoothing.specs.Fine.{pixel_at, pixels_in}
use Rattle.smoothing.proofs.Blocks.{block-more, row-run, row-within}
use Rattle.smoothing.proofs.row.block_sums.Goals as goal

pub loop-row-preserved : goal.loop-row-preserved
loop-row-preserved g c =
    let n = g.row.N in
    let fine = c.args.fine.now in
    let width = c.args.width in
    let first = c.args.first in
    let row = c.loop-row.row in
    let within : row * width + first + n ≤ length fine = omega (arith, row-within n width row first n c.loop-row-test.true c.requires.columns) in
    let run = row-run fine width first n row (row * width + first) (row * width + first + n) refl refl within in
    record {
      sums = rw (← block-more (pixel_at fine width) first n 0 row row _ (omega arith) run) (c.with_run-sums.ensures.sums (pixels_in (pixel_at fine width) first n 0 row) c.loop-row.invariant.sums);
      few = omega (arith, c.with_run-sums.ensures.few, c.loop-row.invariant.few);
      fewer = omega (arith, c.with_run-sums.ensures.fewer, c.loop-row.invariant.fewer);
    }
