use Rattle.std.proofs.Common.{◌≡◌, ◌∙◌, ◌<◌, ℕ, Some, subst, arith}
use lib.IntN.{pos}
use Rattle.geom.specs.Device.{pixel_centre}
use Rattle.scanfill.specs.Runs.{has_column}
use Rattle.strokes.specs.Segment.{is_near}
use Rattle.strokes.specs.Strip.{RowWalkValue}
use Rattle.canvas.proofs.Boxing.{row-box, span-within}
use Rattle.inking.proofs.Stripping.{down-all, down-empty, down-next, down-none}
use Rattle.inking.proofs.strips.fill_down.Goals as goal

pub loop-row-init : goal.loop-row-init
loop-row-init c = record {
  first = omega arith;
  walk = c.walk-walk.ensures;
  filled = down-none c.args.strip (λ i j. Some c.args.colour) c.rows-rows.result.from c.args.canvas.now;
}

pub next-requires : goal.next-requires
next-requires c = rw c.loop-row.invariant.walk (omega (arith, c.loop-row-test.true, c.rows-rows.ensures.within, c.pixels-height.ensures.limits))

pub fill_row-requires-clause-row : goal.fill_row-requires-clause-row
fill_row-requires-clause-row c = omega (arith, c.loop-row-test.true, c.rows-rows.ensures.within, c.pixels-height.ensures.value, c.height.ensures, c.loop-row.invariant.filled.height)

pub fill_row-requires-clause-within : goal.fill_row-requires-clause-within
fill_row-requires-clause-within c =
    span-within c.columns.result c.loop-row.canvas.width c.columns.ensures.order
    (omega (arith, c.columns.ensures.within, c.pixels-width.ensures.value, c.width.ensures.value, c.loop-row.invariant.filled.width))

pub loop-row-preserved : goal.loop-row-preserved
loop-row-preserved c =
    let all : (i : ℕ) → i < c.args.canvas.now.width → has_column c.columns.result i ≡ is_near c.args.strip.width c.args.strip.edge (pixel_centre (pos i) (pos c.loop-row.row)) = λ i h.
    subst (λ (w : RowWalkValue). has_column c.columns.result i ≡ is_near w.width w.edge (pixel_centre (pos i) (pos w.row))) c.loop-row.invariant.walk
    (c.columns.ensures.all i (omega (arith, h, c.pixels-width.ensures.value, c.width.ensures.value))) in
    record {
      first = omega (arith, c.loop-row.invariant.first);
      walk = rw c.loop-row.invariant.walk at c.next.ensures;
      filled = down-next c.args.strip (λ i j. Some c.args.colour) c.rows-rows.result.from c.loop-row.row c.columns.result c.args.canvas.now c.loop-row.canvas c.fill_row.new.self
          c.loop-row.invariant.first c.width.ensures.area all c.loop-row.invariant.filled
          (row-box c.columns.result (λ i j. Some c.args.colour) c.loop-row.row c.loop-row.canvas c.fill_row.new.self c.fill_row.ensures);
    }

pub returns : goal.returns
returns c =
    let all = rw (c.pixels-height.ensures.value ∙ c.height.ensures) at c.rows-rows.ensures.all in
    down-all c.args.strip (λ i j. Some c.args.colour) c.rows-rows.result c.loop-row.row c.args.canvas.now c.loop-row.canvas (omega (arith, c.loop-row-test.false)) (c.loop-row.auto.row-end (omega (arith, c.if-rows.false)))
    c.width.ensures.area all c.loop-row.invariant.filled

pub returns-then-rows : goal.returns-then-rows
returns-then-rows c =
    let all = rw (c.pixels-height.ensures.value ∙ c.height.ensures) at c.rows-rows.ensures.all in
    down-empty c.args.strip (λ i j. Some c.args.colour) c.rows-rows.result c.args.canvas.now (omega (arith, c.if-rows.true)) c.width.ensures.area all
