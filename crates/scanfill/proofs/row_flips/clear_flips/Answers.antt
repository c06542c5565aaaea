use Rattle.scanfill.proofs.Flipping.{cleared}
use Rattle.scanfill.proofs.row_flips.clear_flips.Goals as goal

pub returns : goal.returns
returns c =
    let i = c.loop-column.invariant in
    cleared c.args.flips.now c.loop-column.flips c.loop-column.column c.args.past i.width c.loop-column-test.false i.before i.after
