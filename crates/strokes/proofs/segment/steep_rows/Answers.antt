use Rattle.std.proofs.Common.{◌≡◌, ◌∙◌, ◌*◌, ◌^◌, sym, arith}
use lib.IntN.{pos, neg_ℤ, ◌+ℤ◌, ◌*ℤ◌}
use Rattle.geom.specs.Device.{pixel_centre}
use Rattle.geom.specs.Edge.{rise, run}
use Rattle.scanfill.proofs.Words.{wide, wide-held, word, word-held}
use Rattle.strokes.specs.Segment.{right_of}
use Rattle.strokes.proofs.Nearness.{right-flat}
use Rattle.strokes.proofs.Reaching.{steep-none}
use Rattle.strokes.proofs.segment.steep_rows.Goals as goal

pub returns-clause-none : goal.returns-clause-none
returns-clause-none c = λ i j column row out.
    let e = c.args.edge in
    let last = c.args.last in
    let step : c.step.result ≡ pos 16 *ℤ run e = rw (word (2 ^ 48) c.run.result (omega arith) c.run.ensures.range, c.run.ensures.value) at c.step.ensures.value in
    let opposite : c.opposite.result ≡ neg_ℤ (pos 16 *ℤ run e) = rw (word (2 ^ 52) c.step.result (omega arith) c.step.ensures.range, step) at c.opposite.ensures.value in
    let reach : c.reach.result ≡ pos (16 * c.args.width) *ℤ rise e =
    rw (word (2 ^ 48) c.rise.result (omega arith) c.rise.ensures.range, c.rise.ensures.value) at c.reach.ensures.value in
    let least : c.right_of-least.result ≡ right_of e (pixel_centre (pos 0) (pos 0)) = rw c.pixel_centre.ensures at c.right_of-least.ensures.value in
    let most : c.right_of-most.result ≡ right_of e (pixel_centre (pos last) (pos 0)) = rw c.pixel_centre-2.ensures at c.right_of-most.ensures.value in
    let from : pos j *ℤ neg_ℤ (pos 16 *ℤ run e) +ℤ right_of e (pixel_centre (pos 0) (pos 0)) ≡ right_of e (pixel_centre (pos 0) (pos j)) = right-flat e j 0 in
    let to : pos j *ℤ neg_ℤ (pos 16 *ℤ run e) +ℤ right_of e (pixel_centre (pos last) (pos 0)) ≡ right_of e (pixel_centre (pos last) (pos j)) = right-flat e j last in
    let all = rw (
      word (2 ^ 52) c.opposite.result (omega arith) c.opposite.ensures.range,
      word (2 ^ 59) c.reach.result (omega arith) c.reach.ensures.range,
      wide (2 ^ 97) c.right_of-least.result (omega arith) c.right_of-least.ensures.range,
      wide (2 ^ 97) c.right_of-most.result (omega arith) c.right_of-most.ensures.range,
      opposite,
      reach,
      least,
      most,
      from,
      to,
      c.columns_between.ensures.all j,
      row,
    ) at (c.near_columns.ensures.all j) in
    steep-none c.args.width e i j last column (sym all ∙ out)

pub step-requires : goal.step-requires
step-requires c = word-held (2 ^ 48) c.run.result (omega arith) c.run.ensures.range

pub opposite-requires : goal.opposite-requires
opposite-requires c = word-held (2 ^ 52) c.step.result (omega arith) c.step.ensures.range

pub reach-requires-clause-rise : goal.reach-requires-clause-rise
reach-requires-clause-rise c = word-held (2 ^ 48) c.rise.result (omega arith) c.rise.ensures.range

pub near_columns-requires-clause-least : goal.near_columns-requires-clause-least
near_columns-requires-clause-least c = wide-held (2 ^ 97) c.right_of-least.result (omega arith) c.right_of-least.ensures.range

pub near_columns-requires-clause-most : goal.near_columns-requires-clause-most
near_columns-requires-clause-most c = wide-held (2 ^ 97) c.right_of-most.result (omega arith) c.right_of-most.ensures.range

pub near_columns-requires-clause-step : goal.near_columns-requires-clause-step
near_columns-requires-clause-step c = word-held (2 ^ 52) c.opposite.result (omega arith) c.opposite.ensures.range

pub near_columns-requires-clause-reach : goal.near_columns-requires-clause-reach
near_columns-requires-clause-reach c = word-held (2 ^ 59) c.reach.result (omega arith) c.reach.ensures.range
