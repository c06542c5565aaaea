use Rattle.std.proofs.Common.{◌≡◌, ◌∙◌, ◌*◌, ◌<◌, ◌∷◌, ◌++◌, arith, ap, length, map, sym}
use Rattle.std.proofs.lemmas.List.{length-drop, take-append-drop}
use Rattle.viewport.specs.View.{device_point}
use Rattle.mapdefs.proofs.BlockBoxes.{block-has}
use Rattle.inking.specs.Stroked.{part_covers}
use Rattle.vertices.proofs.Blocks.{block-next, empty-of}
use Rattle.inking.proofs.StrokeBlocks.{way-block}
use Rattle.inking.proofs.Stroking.{way-begin, way-closed, way-open}
use Rattle.inking.proofs.stroke.paint_blocks.Goals as goal

pub loop-area-init : goal.loop-area-init
loop-area-init c =
    let whole : c.args.part.now ≡ c.in-Some.first.now ∷ c.in-Some.rest.now = sym c.as_slice.ensures ∙ c.in-Some.ensures.cases.0 in
    record {
      way = rw c.begin-trail.ensures.from (way-begin c.args.closed c.args.pen.now c.args.part.now c.in-Some.first.now c.in-Some.rest.now c.args.canvas.now c.begin-trail.new.canvas
          whole c.requires c.begin-trail.ensures.filled);
      trail = c.begin-trail.ensures.trail;
      rest = omega (arith, ap length whole);
      here = λ h. rw c.begin-trail.ensures.from (sym whole);
    }

pub paint_block-requires-clause-sides : goal.paint_block-requires-clause-sides
paint_block-requires-clause-sides c = c.loop-area.invariant.way.sides

pub paint_block-requires-clause-has : goal.paint_block-requires-clause-has
paint_block-requires-clause-has c =
    let l = c.loop-area in
    let boxes = c.boxes-area-items.ensures in
    let below : 32 * l.area-index < length c.args.part.now = omega (arith, c.loop-area-test.true, boxes.count) in
    rw c.split_block.ensures.block (block-has c.args.part.now c.boxes-area-items.result.now l.area-index c.area-item.result l.trail.from l.left.now boxes c.loop-area-test.true c.area-item.is
    (l.invariant.here below))

pub loop-area-preserved : goal.loop-area-preserved
loop-area-preserved c =
    let l = c.loop-area in
    let pen = c.args.pen.now in
    let part = c.args.part.now in
    let split = c.split_block.ensures in
    let next = c.in_ok-trail.ensures in
    let below : 32 * l.area-index < length part = omega (arith, c.loop-area-test.true, c.boxes-area-items.ensures.count) in
    let parted : l.left.now ≡ c.split_block.result.0.now ++ c.split_block.result.1.now = rw (split.block, split.behind) (sym (take-append-drop 32 l.left.now)) in
    record {
      way = way-block c.args.closed pen c.in-Some.first.now l.trail.from c.in_ok-trail.trail.from l.left.now c.split_block.result.0.now c.split_block.result.1.now
          (part_covers c.args.closed pen.width (map (device_point pen.view) part)) c.args.canvas.now l.canvas c.paint_block.new.canvas parted next.from l.invariant.way next.filled;
      trail = next.trail;
      rest = omega (arith, ap length split.behind, length-drop 32 l.left.now, l.invariant.rest);
      here = block-next part l.area-index l.trail.from c.in_ok-trail.trail.from l.left.now c.split_block.result.1.now below (l.invariant.here below)
          (rw split.block at next.from) split.behind;
    }

pub returns-in_ok-go_on : goal.returns-in_ok-go_on
returns-in_ok-go_on c =
    let l = c.loop-area in
    way-closed c.args.closed c.args.pen.now c.in-Some.first.now l.trail.from l.left.now
    (part_covers c.args.closed c.args.pen.now.width (map (device_point c.args.pen.now.view) c.args.part.now)) c.args.canvas.now l.canvas c.go_on.new.canvas c.if-closed.true
    (empty-of l.left.now (omega (arith, l.invariant.rest, c.loop-area-test.false, c.boxes-area-items.ensures.count))) l.invariant.way c.in_ok-go_on.ensures.filled

pub returns-else-closed : goal.returns-else-closed
returns-else-closed c =
    let l = c.loop-area in
    way-open c.args.closed c.args.pen.now c.in-Some.first.now l.trail.from l.left.now
    (part_covers c.args.closed c.args.pen.now.width (map (device_point c.args.pen.now.view) c.args.part.now)) c.args.canvas.now l.canvas c.if-closed.false
    (empty-of l.left.now (omega (arith, l.invariant.rest, c.loop-area-test.false, c.boxes-area-items.ensures.count))) l.invariant.way
