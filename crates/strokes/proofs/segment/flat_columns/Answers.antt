use Rattle.std.proofs.Common.{◌≡◌, ◌∙◌, ◌&&◌, ◌*◌, ◌^◌, sym, ap, arith}
use lib.IntN.{pos, neg_ℤ, ◌*ℤ◌}
use Rattle.geom.specs.Device.{centre, pixel_centre}
use Rattle.geom.specs.Edge.{rise, run}
use Rattle.scanfill.proofs.Words.{wide, wide-held, word, word-held}
use Rattle.scanfill.specs.Runs.{has_column}
use Rattle.strokes.specs.Segment.{is_between, is_near, right_of, turned}
use Rattle.strokes.proofs.Beyond.{beyond-covers}
use Rattle.strokes.proofs.Keeping.{and-swap, none}
use Rattle.strokes.proofs.Marking.{no-column}
use Rattle.strokes.proofs.Nearness.{right-flat}
use Rattle.strokes.proofs.segment.flat_columns.Goals as goal

pub returns-clause-all : goal.returns-clause-all
returns-clause-all c = λ i.
    let e = c.args.edge in
    let j = c.args.row in
    let step : c.step.result ≡ pos 16 *ℤ run e = rw (word (2 ^ 48) c.run.result (omega arith) c.run.ensures.range, c.run.ensures.value) at c.step.ensures.value in
    let opposite : c.opposite.result ≡ neg_ℤ (pos 16 *ℤ run e) = rw (word (2 ^ 52) c.step.result (omega arith) c.step.ensures.range, step) at c.opposite.ensures.value in
    let reach : c.reach.result ≡ pos (16 * c.args.width) *ℤ rise e =
    rw (word (2 ^ 48) c.rise.result (omega arith) c.rise.ensures.range, c.rise.ensures.value) at c.reach.ensures.value in
    let right : c.right_of-right.result ≡ right_of e (turned (pixel_centre (pos 0) (pos j))) =
    rw (c.turned.ensures, c.pixel_centre.ensures) at c.right_of-right.ensures.value in
    let all = rw (
      word (2 ^ 52) c.opposite.result (omega arith) c.opposite.ensures.range,
      word (2 ^ 59) c.reach.result (omega arith) c.reach.ensures.range,
      wide (2 ^ 97) c.right_of-right.result (omega arith) c.right_of-right.ensures.range,
      opposite,
      reach,
      right,
      right-flat e i j,
    ) at (c.near_columns.ensures.all i) in
    all
    ∙ (ap (λ t. t && is_near c.args.width e (turned (pixel_centre (pos i) (pos j)))) (c.columns_between.ensures.all i)
    ∙ sym (and-swap (has_column c.args.span i) (is_between e (centre (pos i))) (is_near c.args.width e (turned (pixel_centre (pos i) (pos j))))))

pub returns-then-is_beyond-clause-all : goal.returns-then-is_beyond-clause-all
returns-then-is_beyond-clause-all c = λ i.
    let beyond = rw (word (2 ^ 47) c.row_centre.result (omega arith) c.row_centre.ensures.range, c.row_centre.ensures.value) at (sym c.if-is_beyond.ensures) in
    rw (beyond-covers c.args.width c.args.edge (centre (pos c.args.row)) (centre (pos i)) beyond)
    (no-column (record { from = 0; to = 0 }) i (omega arith) ∙ sym (none (has_column c.args.span i)))

pub step-requires : goal.step-requires
step-requires c = word-held (2 ^ 48) c.run.result (omega arith) c.run.ensures.range

pub opposite-requires : goal.opposite-requires
opposite-requires c = word-held (2 ^ 52) c.step.result (omega arith) c.step.ensures.range

pub reach-requires-clause-rise : goal.reach-requires-clause-rise
reach-requires-clause-rise c = word-held (2 ^ 48) c.rise.result (omega arith) c.rise.ensures.range

pub near_columns-requires-clause-least : goal.near_columns-requires-clause-least
near_columns-requires-clause-least c = wide-held (2 ^ 97) c.right_of-right.result (omega arith) c.right_of-right.ensures.range

pub near_columns-requires-clause-most : goal.near_columns-requires-clause-most
near_columns-requires-clause-most c = wide-held (2 ^ 97) c.right_of-right.result (omega arith) c.right_of-right.ensures.range

pub near_columns-requires-clause-step : goal.near_columns-requires-clause-step
near_columns-requires-clause-step c = word-held (2 ^ 52) c.opposite.result (omega arith) c.opposite.ensures.range

pub near_columns-requires-clause-reach : goal.near_columns-requires-clause-reach
near_columns-requires-clause-reach c = word-held (2 ^ 59) c.reach.result (omega arith) c.reach.ensures.range
