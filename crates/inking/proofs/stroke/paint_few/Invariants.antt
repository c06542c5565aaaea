use Rattle.std.proofs.Common.{◌≡◌, drop, false}
use Rattle.vertices.specs.Chain.{chain_end}
use Rattle.inking.specs.Stroked.{IsTip, chain_covers}
use Rattle.inking.proofs.Stroking.{IsOnWay}
use Rattle.inking.proofs.stroke.paint_few.Given as goal

abbrev pub invariant-loop-to : goal.invariant-loop-to
invariant-loop-to l = record {
  way : IsOnWay false l.pen l.fn.tip.from l.tip.from (drop l.to-index l.rest) (chain_covers l.pen l.fn.tip.from l.fn.rest) l.fn.canvas l.canvas;
  tip : IsTip l.pen l.canvas l.tip;
  end : chain_end l.tip.from (drop l.to-index l.rest) ≡ chain_end l.fn.tip.from l.fn.rest;
}
