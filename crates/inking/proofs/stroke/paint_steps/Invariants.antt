use Rattle.std.proofs.Common.{◌≡◌, drop, false}
use Rattle.vertices.specs.Chain.{chain_end}
use Rattle.inking.specs.Stroked.{IsTrail, chain_covers}
use Rattle.inking.proofs.Stroking.{IsOnWay}
use Rattle.inking.proofs.stroke.paint_steps.Given as goal

abbrev pub invariant-loop-to : goal.invariant-loop-to
invariant-loop-to l = record {
  way : IsOnWay false l.pen l.fn.trail.from l.trail.from (drop l.to-index l.block) (chain_covers l.pen l.fn.trail.from l.fn.block) l.fn.canvas l.canvas;
  trail : IsTrail l.pen l.canvas l.trail;
  end : chain_end l.trail.from (drop l.to-index l.block) ≡ chain_end l.fn.trail.from l.fn.block;
}
