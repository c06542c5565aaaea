use Rattle.std.proofs.Common.{◌≡◌, ◌++◌, drop, map}
use Rattle.strokes.specs.Line.{segment_along, segments_of}
use Rattle.strokes.proofs.Parts.{following}
use Rattle.strokes.proofs.line.push_segments.Given as goal

abbrev pub invariant-loop-to : goal.invariant-loop-to
invariant-loop-to l =
    l.segments.items ++ map (segment_along l.width) (following l.closed l.first l.from (drop l.to-index l.rest)) ≡ l.fn.segments.items ++ segments_of l.closed l.width l.part
