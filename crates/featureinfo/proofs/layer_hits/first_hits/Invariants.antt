use Rattle.std.proofs.Common.{take}
use Rattle.featureinfo.specs.Hits.{IsHitAt}
use Rattle.featureinfo.proofs.Firsts.{SoFar}
use Rattle.featureinfo.proofs.layer_hits.first_hits.Given as goal

abbrev pub invariant-loop-index : goal.invariant-loop-index
invariant-loop-index l = SoFar (IsHitAt l.scene l.layer l.asked.column l.asked.row) l.asked.count (take l.index-index l.found.items) l.hits.items
