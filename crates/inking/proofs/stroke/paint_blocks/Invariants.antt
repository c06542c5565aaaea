use Rattle.std.proofs.Common.{◌≡◌, ◌<◌, ◌*◌, ◌-◌, ◌∷◌, drop, length, map}
use Rattle.viewport.specs.View.{device_point}
use Rattle.inking.specs.Stroked.{IsTrail, part_covers}
use Rattle.inking.proofs.Stroking.{IsOnWay}
use Rattle.inking.proofs.stroke.paint_blocks.Given as goal

-- the steps of the blocks before this one are painted, and this block begins with the trail's vertex
abbrev pub invariant-loop-area : goal.invariant-loop-area
invariant-loop-area l = record {
  way : IsOnWay l.closed l.pen l.first l.trail.from l.left (part_covers l.closed l.pen.width (map (device_point l.pen.view) l.fn.part)) l.fn.canvas l.canvas;
  trail : IsTrail l.pen l.canvas l.trail;
  rest : length l.left ≡ length l.fn.part - 1 - 32 * l.area-index;
  here : 32 * l.area-index < length l.fn.part → l.trail.from ∷ l.left ≡ drop (32 * l.area-index) l.fn.part;
}
