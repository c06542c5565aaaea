use Rattle.smoothing.specs.Fine.{pixel_at}
use Rattle.smoothing.proofs.Joining.{columns-more, columns-none, run-at}
use Rattle.smoothing.proofs.columns.Columns.of_rows.Goals as goal

pub loop-row-init : goal.loop-row-init
loop-row-init g c = columns-none (pixel_at c.args.fine.now c.args.width) c.args.first g.row.W

pub loop-row-preserved : goal.loop-row-preserved
loop-row-preserved g c =
    let w = g.row.W in
    let pixels = c.args.fine.now in
    let width = c.args.width in
    let first = c.args.first in
    let row = c.loop-row.row in
    let old = c.loop-row.columns in
    let new = c.add_row.new.self in
    let at = run-at pixels width first w row in
    columns-more (pixel_at pixels width) first w row old.outer old.inner new.outer new.inner c.add_row.ensures.wide c.add_row.ensures.high
    (λ k h. rw (at k h) at (c.add_row.ensures.bytes k h))
    (λ k h. rw (at k h) at (c.add_row.ensures.outer k h))
    (λ k h. rw (at k h) at (c.add_row.ensures.inner k h))
    c.loop-row.invariant
