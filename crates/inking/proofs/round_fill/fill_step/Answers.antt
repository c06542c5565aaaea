use Rattle.std.proofs.Common.{◌≡◌, ◌<◌, ℕ, false, Some, arith}
use lib.IntN.{pos}
use Rattle.geom.specs.Device.{pixel_centre}
use Rattle.scanfill.specs.Runs.{has_column}
use Rattle.strokes.specs.Round.{covers_round}
use Rattle.strokes.specs.Segment.{SegmentValue}
use Rattle.canvas.proofs.Boxing.{row-box, span-within}
use Rattle.inking.specs.Stroked.{PixelTest}
use Rattle.inking.proofs.RoundFilling.{rows-all, rows-empty, rows-next, rows-none}
use Rattle.inking.proofs.round_fill.fill_step.Goals as goal

-- whether the step covers a pixel
abbrev covered : SegmentValue → PixelTest
covered v i j = covers_round v.width v.edge (pixel_centre (pos i) (pos j))

pub loop-row-init : goal.loop-row-init
loop-row-init c = record {
  first = omega arith;
  filled = rows-none (covered c.args.step.now) (λ i j. Some c.args.colour) c.rows-rows.result.from c.args.canvas.now;
}

pub fill_row-requires-clause-row : goal.fill_row-requires-clause-row
fill_row-requires-clause-row c = omega (arith, c.loop-row-test.true, c.rows-rows.ensures.within, c.pixels-height.ensures.value, c.height.ensures, c.loop-row.invariant.filled.height)

pub fill_row-requires-clause-within : goal.fill_row-requires-clause-within
fill_row-requires-clause-within c =
    span-within c.columns.result c.loop-row.canvas.width c.columns.ensures.order
    (omega (arith, c.columns.ensures.within, c.pixels-width.ensures.value, c.width.ensures.value, c.loop-row.invariant.filled.width))

pub loop-row-preserved : goal.loop-row-preserved
loop-row-preserved c =
    let all : (i : ℕ) → i < c.args.canvas.now.width → has_column c.columns.result i ≡ covered c.args.step.now i c.loop-row.row = λ i h.
    c.columns.ensures.all i (omega (arith, h, c.pixels-width.ensures.value, c.width.ensures.value)) in
    record {
      first = omega (arith, c.loop-row.invariant.first);
      filled = rows-next (covered c.args.step.now) (λ i j. Some c.args.colour) c.rows-rows.result.from c.loop-row.row c.columns.result c.args.canvas.now c.loop-row.canvas c.fill_row.new.self
          c.loop-row.invariant.first c.width.ensures.area all c.loop-row.invariant.filled
          (row-box c.columns.result (λ i j. Some c.args.colour) c.loop-row.row c.loop-row.canvas c.fill_row.new.self c.fill_row.ensures);
    }

pub returns : goal.returns
returns c =
    let none : (i j : ℕ) → i < c.args.canvas.now.width → j < c.args.canvas.now.height → has_column c.rows-rows.result j ≡ false → covered c.args.step.now i j ≡ false = λ i j p q out.
    c.rows-rows.ensures.none i j (omega (arith, p, c.pixels-width.ensures.value, c.width.ensures.value)) (omega (arith, q, c.pixels-height.ensures.value, c.height.ensures)) out in
    rows-all (covered c.args.step.now) (λ i j. Some c.args.colour) c.rows-rows.result c.loop-row.row c.args.canvas.now c.loop-row.canvas (omega (arith, c.loop-row-test.false)) (c.loop-row.auto.row-end (omega (arith, c.if-rows.false)))
    c.width.ensures.area none c.loop-row.invariant.filled

pub returns-then-rows : goal.returns-then-rows
returns-then-rows c =
    let none : (i j : ℕ) → i < c.args.canvas.now.width → j < c.args.canvas.now.height → has_column c.rows-rows.result j ≡ false → covered c.args.step.now i j ≡ false = λ i j p q out.
    c.rows-rows.ensures.none i j (omega (arith, p, c.pixels-width.ensures.value, c.width.ensures.value)) (omega (arith, q, c.pixels-height.ensures.value, c.height.ensures)) out in
    rows-empty (covered c.args.step.now) (λ i j. Some c.args.colour) c.rows-rows.result c.args.canvas.now (omega (arith, c.if-rows.true)) c.width.ensures.area none
