use Rattle.std.proofs.Common.{◌≡◌, ◌∙◌, ◌<◌, ℕ, Some, subst, arith}
use lib.IntN.{pos}
use Rattle.geom.specs.Device.{pixel_centre}
use Rattle.scanfill.specs.Runs.{has_column}
use Rattle.strokes.specs.Segment.{is_near}
use Rattle.strokes.specs.Strip.{RowWalkValue}
use Rattle.inking.proofs.Stripping.{across-all, across-empty, across-next, across-none}
use Rattle.inking.proofs.strips.fill_across.Goals as goal

pub loop-column-init : goal.loop-column-init
loop-column-init c = record {
  first = omega arith;
  walk = c.walk-walk.ensures;
  filled = across-none c.args.strip (λ i j. Some c.args.colour) c.rows-columns.result.from c.args.canvas.now;
}

pub next-requires : goal.next-requires
next-requires c = rw c.loop-column.invariant.walk (omega (arith, c.loop-column-test.true, c.rows-columns.ensures.within, c.pixels-width.ensures.limits))

pub loop-column-preserved : goal.loop-column-preserved
loop-column-preserved c =
    let all : (j : ℕ) → j < c.args.canvas.now.height → has_column c.columns.result j ≡ is_near c.args.strip.width c.args.strip.edge (pixel_centre (pos j) (pos c.loop-column.column)) = λ j h.
    subst (λ (w : RowWalkValue). has_column c.columns.result j ≡ is_near w.width w.edge (pixel_centre (pos j) (pos w.row))) c.loop-column.invariant.walk
    (c.columns.ensures.all j (omega (arith, h, c.pixels-height.ensures.value, c.height.ensures))) in
    record {
      first = omega (arith, c.loop-column.invariant.first);
      walk = rw c.loop-column.invariant.walk at c.next.ensures;
      filled = across-next c.args.strip (λ i j. Some c.args.colour) c.rows-columns.result.from c.loop-column.column c.columns.result c.args.canvas.now c.loop-column.canvas c.fill_column.new.self
          c.loop-column.invariant.first c.width.ensures.area all c.loop-column.invariant.filled c.fill_column.ensures;
    }

pub returns : goal.returns
returns c =
    let all = rw (c.pixels-width.ensures.value ∙ c.width.ensures.value) at c.rows-columns.ensures.all in
    across-all c.args.strip (λ i j. Some c.args.colour) c.rows-columns.result c.loop-column.column c.args.canvas.now c.loop-column.canvas (omega (arith, c.loop-column-test.false)) (c.loop-column.auto.column-end (omega (arith, c.if-columns.false)))
    c.width.ensures.area all c.loop-column.invariant.filled

pub returns-then-columns : goal.returns-then-columns
returns-then-columns c =
    let all = rw (c.pixels-width.ensures.value ∙ c.width.ensures.value) at c.rows-columns.ensures.all in
    across-empty c.args.strip (λ i j. Some c.args.colour) c.rows-columns.result c.args.canvas.now (omega (arith, c.if-columns.true)) c.width.ensures.area all
