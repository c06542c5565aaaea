use Rattle.std.proofs.Common.{◌≡◌, ◌*◌, ◌^◌, true, sym, arith}
use lib.IntN.{pos, ◌*ℤ◌}
use Rattle.geom.specs.Device.{centre, pixel_centre}
use Rattle.geom.specs.Edge.{rise}
use Rattle.scanfill.proofs.Words.{wide, wide-held, word, word-held}
use Rattle.strokes.specs.Segment.{is_between, right_of}
use Rattle.strokes.proofs.Nearness.{right-steep}
use Rattle.strokes.proofs.segment.steep_columns.Goals as goal

pub returns-clause-all : goal.returns-clause-all
returns-clause-all c = λ i.
    let e = c.args.edge in
    let j = c.args.row in
    let rises = word (2 ^ 48) c.rise.result (omega arith) c.rise.ensures.range in
    let step : c.step.result ≡ pos 16 *ℤ rise e = rw (rises, c.rise.ensures.value) at c.step.ensures.value in
    let reach : c.reach.result ≡ pos (16 * c.args.width) *ℤ rise e =
    rw (word (2 ^ 48) c.rise-2.result (omega arith) c.rise-2.ensures.range, c.rise-2.ensures.value) at c.reach.ensures.value in
    let right : c.right_of-right.result ≡ right_of e (pixel_centre (pos 0) (pos j)) = rw c.pixel_centre.ensures at c.right_of-right.ensures.value in
    let between : is_between e (centre (pos j)) ≡ true =
    rw (word (2 ^ 47) c.row_centre.result (omega arith) c.row_centre.ensures.range, c.row_centre.ensures.value) at (sym c.if-not-is_between.ensures) in
    let all = rw (
      word (2 ^ 52) c.step.result (omega arith) c.step.ensures.range,
      word (2 ^ 59) c.reach.result (omega arith) c.reach.ensures.range,
      wide (2 ^ 97) c.right_of-right.result (omega arith) c.right_of-right.ensures.range,
      step,
      reach,
      right,
      right-steep e (pos i) (pos j),
    ) at (c.near_columns.ensures.all i) in
    rw between all

pub step-requires : goal.step-requires
step-requires c = word-held (2 ^ 48) c.rise.result (omega arith) c.rise.ensures.range

pub reach-requires-clause-rise : goal.reach-requires-clause-rise
reach-requires-clause-rise c = word-held (2 ^ 48) c.rise-2.result (omega arith) c.rise-2.ensures.range

pub near_columns-requires-clause-least : goal.near_columns-requires-clause-least
near_columns-requires-clause-least c = wide-held (2 ^ 97) c.right_of-right.result (omega arith) c.right_of-right.ensures.range

pub near_columns-requires-clause-most : goal.near_columns-requires-clause-most
near_columns-requires-clause-most c = wide-held (2 ^ 97) c.right_of-right.result (omega arith) c.right_of-right.ensures.range

pub near_columns-requires-clause-step : goal.near_columns-requires-clause-step
near_columns-requires-clause-step c = word-held (2 ^ 52) c.step.result (omega arith) c.step.ensures.range

pub near_columns-requires-clause-reach : goal.near_columns-requires-clause-reach
near_columns-requires-clause-reach c = word-held (2 ^ 59) c.reach.result (omega arith) c.reach.ensures.range
