use Rattle.std.proofs.Common.{◌≡◌, ◌^◌, get_or, refl, arith}
use Rattle.scanfill.proofs.Words.{word}
use Rattle.labelink.specs.Disc.{outlines_run, run_at}
use Rattle.labelink.proofs.Rows.{runs-more}
use Rattle.labelink.proofs.ink_runs.InkLine.add_runs.Goals as goal

pub loop-span-preserved : goal.loop-span-preserved
loop-span-preserved c = λ i j.
    let reach = c.args.chords.now in
    let left = c.args.self.left in
    let row = c.args.self.row in
    let first = c.column_at-from.ensures.value in
    let past = c.column_at-past.ensures.value in
    let new = c.new.ensures in
    let same : outlines_run (run_at reach left row (get_or c.args.ink.now c.loop-span.span-index (record { from = 0; to = 0 }))) i j ≡ outlines_run c.new.result i j = rw (
      new,
      word (2 ^ 48) row (omega arith) c.requires.row,
      word (2 ^ 48) c.column_at-from.result (omega arith) c.column_at-from.ensures.range,
      word (2 ^ 48) c.column_at-past.result (omega arith) c.column_at-past.ensures.range,
      first,
      past,
      word (2 ^ 47) left (omega arith) c.requires.left,
    ) refl in
    runs-more (λ span. outlines_run (run_at reach left row span) i j) (λ run. outlines_run run i j) c.args.ink.now c.loop-span.span-index (record { from = 0; to = 0 }) c.new.result
    c.args.runs.now.items c.loop-span.runs.items c.push.new.self.items c.loop-span-test.true same c.in_ok-push.ensures.items (c.loop-span.invariant i j)
