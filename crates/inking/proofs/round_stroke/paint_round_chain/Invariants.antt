use Rattle.std.proofs.Common.{drop, false, map}
use Rattle.viewport.specs.View.{device_point}
use Rattle.inking.specs.Rounded.{IsRoundTip, round_chain_covers}
use Rattle.inking.proofs.RoundStroking.{IsOnRoundWay}
use Rattle.inking.proofs.round_stroke.paint_round_chain.Given as goal

abbrev pub invariant-loop-place : goal.invariant-loop-place
invariant-loop-place l = record {
  way : IsOnRoundWay false l.pen (device_point l.pen.view l.from) l.tip.at (map (device_point l.pen.view) (drop l.place-index l.rest))
      (round_chain_covers l.pen l.from l.rest) l.fn.canvas l.canvas;
  tip : IsRoundTip l.pen l.canvas l.tip;
}
