use Rattle.std.proofs.Common.{◌≡◌, ◌++◌, drop, map}
use Rattle.strokes.specs.Line.{segment_along}
use Rattle.strokes.specs.Round.{round_segments}
use Rattle.strokes.proofs.Parts.{following}
use Rattle.strokes.proofs.round_line.push_segments.Given as goal

abbrev pub invariant-loop-to : goal.invariant-loop-to
invariant-loop-to l =
    l.segments.items ++ map (segment_along l.width) (following l.closed l.first l.from (drop l.to-index l.rest)) ≡ l.fn.segments.items ++ round_segments l.closed l.width l.part
