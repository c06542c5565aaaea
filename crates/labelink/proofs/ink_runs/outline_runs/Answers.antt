use Rattle.std.proofs.Common.{◌≡◌, ◌∙◌, ◌^◌, arith}
use Rattle.std.proofs.lemmas.Int.{ints}
use Rattle.scanfill.proofs.Words.{word}
use Rattle.labelink.proofs.Rows.{row-added, rows-all, rows-none}
use Rattle.labelink.proofs.ink_runs.outline_runs.Goals as goal

pub loop-row-init : goal.loop-row-init
loop-row-init c = λ i j. rw c.new-runs.ensures.items (rows-none c.args.glyph.now c.args.chords.now i j)

pub loop-row-preserved : goal.loop-row-preserved
loop-row-preserved c = λ i j.
    row-added c.args.glyph.now c.loop-row.row c.args.chords.now i j _ _ _ _ _ _ (c.in_ok-add_runs.ensures i j) (c.loop-row.invariant i j) c.in_ok-ink_of_row.ensures.ok c.as_slice.ensures
    (rw (word (2 ^ 47) c.columns_of_box-left.result.1 (omega arith) c.columns_of_box-left.ensures.limits) c.columns_of_box-left.ensures.left)
    (omega (arith, ints, c.rows_of_box-height.ensures.limits, c.rows_of_box-height.ensures.top, c.from.ensures, c.loop-row.auto.row-end))

pub returns : goal.returns
returns c = λ i j.
    let height = c.rows_of_box-height.ensures.side in
    let last : c.loop-row.row ≡ c.args.glyph.now.glyph.bounds.height = omega (arith, height, c.loop-row-test.false, c.loop-row.auto.row-end) in
    c.loop-row.invariant i j ∙ rw last (rows-all c.args.glyph.now c.args.chords.now i j)
