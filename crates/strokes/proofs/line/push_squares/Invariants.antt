use Rattle.std.proofs.Common.{◌≡◌, ◌++◌, map, take}
use Rattle.strokes.specs.Line.{square_at}
use Rattle.strokes.proofs.line.push_squares.Given as goal

abbrev pub invariant-loop-vertex : goal.invariant-loop-vertex
invariant-loop-vertex l = l.squares.items ≡ l.fn.squares.items ++ map (square_at l.width) (take l.vertex-index l.part)
