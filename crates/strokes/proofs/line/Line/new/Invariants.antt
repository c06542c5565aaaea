use Rattle.std.proofs.Common.{◌≡◌, map, take}
use Rattle.std.specs.List.{flat_map}
use Rattle.std.specs.Vec.{vec_items}
use Rattle.strokes.specs.Line.{segments_of, square_at}
use Rattle.strokes.proofs.line.Line.new.Given as goal

abbrev pub invariant-loop-part : goal.invariant-loop-part
invariant-loop-part l = record {
  segments : l.segments.items ≡ flat_map (segments_of l.closed l.width) (map vec_items (take l.part-index l.parts));
  squares : l.squares.items ≡ flat_map (map (square_at l.width)) (map vec_items (take l.part-index l.parts));
}
