use Rattle.std.proofs.Common.{◌≡◌, take}
use Rattle.std.specs.List.{AllZip}
use Rattle.mapdefs.specs.Change.{HasRoomFor}
use Rattle.layers.specs.Draft.{extended_first}
use Rattle.layers.proofs.draft.none_beside.Given as goal

-- so far nothing waits
abbrev pub invariant-loop-layer : goal.invariant-loop-layer
invariant-loop-layer l = record {
  none : extended_first l.more.items (take l.layer-index l.layers) ≡ take l.layer-index l.layers;
  room : AllZip HasRoomFor l.more.items (take l.layer-index l.layers);
}
