use Rattle.std.proofs.Common.{◌+◌, ◌*◌, ◌≤◌, length, arith}
use Rattle.std.specs.List.{slice_range}
use Rattle.smoothing.specs.Fine.{pixel_at}
use Rattle.smoothing.proofs.Blocks.{range-count, row-within}
use Rattle.smoothing.proofs.Joining.{run-at}
use Rattle.smoothing.proofs.Plain.{plain-more}
use Rattle.smoothing.proofs.group.is_plain.Goals as goal

pub loop-row-preserved : goal.loop-row-preserved
loop-row-preserved g c =
    let w = g.row.W in
    let pixels = c.args.fine.now in
    let start = c.loop-row.row * c.args.width + c.args.first in
    let within : start + w ≤ length pixels = omega (arith, row-within g.row.N c.args.width c.loop-row.row c.args.first w c.loop-row-test.true c.requires.columns) in
    plain-more (pixel_at pixels c.args.width) c.args.first w c.loop-row.row c.loop-row.plain c.are_all-plain.result (slice_range pixels start (start + w)) c.args.colour (range-count pixels start w within)
    (run-at pixels c.args.width c.args.first w c.loop-row.row) c.loop-row.invariant c.are_all-plain.ensures
