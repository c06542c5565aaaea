use Rattle.std.proofs.Common.{◌≡◌, ◌<◌, ◌*◌, ◌-◌, ◌∷◌, drop, length, map}
use Rattle.viewport.specs.View.{device_point}
use Rattle.inking.specs.Rounded.{round_part_covers}
use Rattle.inking.specs.Stroked.{IsOf}
use Rattle.inking.proofs.RoundStroking.{IsOnRoundWay}
use Rattle.inking.proofs.round_stroke.paint_round_part.Given as goal

-- the blocks before this one are painted, and this block begins with the last of their vertices
abbrev pub invariant-loop-area : goal.invariant-loop-area
invariant-loop-area l = record {
  way : IsOnRoundWay l.closed l.pen l.start (device_point l.pen.view l.from) (map (device_point l.pen.view) l.left)
      (round_part_covers l.closed l.pen.width (map (device_point l.pen.view) l.fn.part)) l.fn.canvas l.canvas;
  sides : IsOf l.pen l.canvas;
  rest : length l.left ≡ length l.fn.part - 1 - 32 * l.area-index;
  here : 32 * l.area-index < length l.fn.part → l.from ∷ l.left ≡ drop (32 * l.area-index) l.fn.part;
}
