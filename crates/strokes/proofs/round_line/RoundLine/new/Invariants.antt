use Rattle.std.proofs.Common.{◌≡◌, map, take}
use Rattle.std.specs.List.{flat_map}
use Rattle.std.specs.Vec.{vec_items}
use Rattle.strokes.specs.Round.{round_segments}
use Rattle.strokes.proofs.round_line.RoundLine.new.Given as goal

abbrev pub invariant-loop-part : goal.invariant-loop-part
invariant-loop-part l = l.segments.items ≡ flat_map (round_segments l.closed l.width) (map vec_items (take l.part-index l.parts))
