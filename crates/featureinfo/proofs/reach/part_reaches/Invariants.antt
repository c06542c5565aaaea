use Rattle.std.proofs.Common.{◌≡◌, ◌*◌, drop}
use Rattle.featureinfo.specs.Reach.{part_reaches}
use Rattle.featureinfo.proofs.reach.part_reaches.Given as goal

-- no vertex of the blocks before this one reaches to the side
abbrev pub invariant-loop-area : goal.invariant-loop-area
invariant-loop-area l = record {
  here : l.left ≡ drop (32 * l.area-index) l.fn.part;
  reach : part_reaches l.projection l.left l.limit l.side ≡ part_reaches l.projection l.fn.part l.limit l.side;
}
