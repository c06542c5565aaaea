use Rattle.std.proofs.Common.{◌≡◌, ◌∙◌, ◌*◌, ◌<◌, List, ◌∷◌, ◌++◌, arith, ap, length, map, sym}
use Rattle.std.proofs.lemmas.List.{length-drop, take-append-drop}
use Rattle.geom.specs.Device.{DevicePoint}
use Rattle.geom.specs.World.{Place}
use Rattle.viewport.specs.View.{device_point}
use Rattle.mapdefs.proofs.BlockBoxes.{block-has}
use Rattle.inking.specs.Rounded.{round_chain_covers, round_part_covers, round_step_covers}
use Rattle.vertices.proofs.Blocks.{block-next, empty-of}
use Rattle.inking.proofs.RoundBlocks.{round-block}
use Rattle.inking.proofs.RoundStroking.{ink, round-begin, round-closed, round-open}
use Rattle.inking.proofs.Stroking.{filled-of}
use Rattle.inking.proofs.round_stroke.paint_round_part.Goals as goal

pub loop-area-init : goal.loop-area-init
loop-area-init c =
    let pen = c.args.pen.now in
    let at : Place → DevicePoint = device_point pen.view in
    let whole : c.args.part.now ≡ c.in-Some.first.now ∷ c.in-Some.rest.now = sym c.as_slice.ensures ∙ c.in-Some.ensures.cases.0 in
    record {
      way = rw c.device-start.ensures (round-begin c.args.closed pen (map at c.args.part.now) (at c.in-Some.first.now) (map at c.in-Some.rest.now) c.args.canvas.now c.paint_round_step.new.canvas
          (ap (λ (ps : List Place). map at ps) whole) (rw c.device-start.ensures at c.in_ok-paint_round_step.ensures));
      sides = filled-of pen (round_step_covers pen.width c.device-start.result c.device-start.result) (ink pen) c.args.canvas.now c.paint_round_step.new.canvas c.in_ok-paint_round_step.ensures c.requires;
      rest = omega (arith, ap length whole);
      here = λ h. sym whole;
    }

pub paint_round_block-requires-clause-sides : goal.paint_round_block-requires-clause-sides
paint_round_block-requires-clause-sides c = c.loop-area.invariant.sides

pub paint_round_block-requires-clause-has : goal.paint_round_block-requires-clause-has
paint_round_block-requires-clause-has c =
    let l = c.loop-area in
    let boxes = c.boxes-area-items.ensures in
    let below : 32 * l.area-index < length c.args.part.now = omega (arith, c.loop-area-test.true, boxes.count) in
    rw c.split_block.ensures.block (block-has c.args.part.now c.boxes-area-items.result.now l.area-index c.area-item.result l.from l.left.now boxes c.loop-area-test.true c.area-item.is
    (l.invariant.here below))

pub loop-area-preserved : goal.loop-area-preserved
loop-area-preserved c =
    let l = c.loop-area in
    let pen = c.args.pen.now in
    let part = c.args.part.now in
    let split = c.split_block.ensures in
    let next = c.in_ok-from.ensures in
    let below : 32 * l.area-index < length part = omega (arith, c.loop-area-test.true, c.boxes-area-items.ensures.count) in
    let parted : l.left.now ≡ c.split_block.result.0.now ++ c.split_block.result.1.now = rw (split.block, split.behind) (sym (take-append-drop 32 l.left.now)) in
    record {
      way = round-block c.args.closed pen c.device-start.result l.from c.in_ok-from.from l.left.now c.split_block.result.0.now c.split_block.result.1.now
          (round_part_covers c.args.closed pen.width (map (device_point pen.view) part)) c.args.canvas.now l.canvas c.paint_round_block.new.canvas parted next.end l.invariant.way next.filled;
      sides = filled-of pen (round_chain_covers pen l.from c.split_block.result.0.now) (ink pen) l.canvas c.paint_round_block.new.canvas next.filled l.invariant.sides;
      rest = omega (arith, ap length split.behind, length-drop 32 l.left.now, l.invariant.rest);
      here = block-next part l.area-index l.from c.in_ok-from.from l.left.now c.split_block.result.1.now below (l.invariant.here below)
          (rw split.block at next.end) split.behind;
    }

pub returns-in_ok-paint_round_step-2 : goal.returns-in_ok-paint_round_step-2
returns-in_ok-paint_round_step-2 c =
    let l = c.loop-area in
    let pen = c.args.pen.now in
    let at : Place → DevicePoint = device_point pen.view in
    round-closed c.args.closed pen c.device-start.result (at l.from) (map at l.left.now) (round_part_covers c.args.closed pen.width (map at c.args.part.now))
    c.args.canvas.now l.canvas c.paint_round_step-then-closed.new.canvas c.if-closed.true
    (ap (λ (ps : List Place). map at ps) (empty-of l.left.now (omega (arith, l.invariant.rest, c.loop-area-test.false, c.boxes-area-items.ensures.count)))) l.invariant.way
    (rw c.device.ensures at c.in_ok-paint_round_step-2.ensures)

pub returns-else-closed : goal.returns-else-closed
returns-else-closed c =
    let l = c.loop-area in
    let pen = c.args.pen.now in
    round-open c.args.closed pen c.device-start.result (device_point pen.view l.from) (map (device_point pen.view) l.left.now)
    (round_part_covers c.args.closed pen.width (map (device_point pen.view) c.args.part.now)) c.args.canvas.now l.canvas c.if-closed.false
    (ap (λ (ps : List Place). map (device_point pen.view) ps) (empty-of l.left.now (omega (arith, l.invariant.rest, c.loop-area-test.false, c.boxes-area-items.ensures.count)))) l.invariant.way
