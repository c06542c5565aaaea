use Rattle.std.proofs.Common.{◌≡◌, ℕ, ◌<◌, ◌||◌, length, take}
use lib.IntN.{pos}
use Rattle.std.specs.List.{list_any}
use Rattle.strokes.specs.Columns.{is_marked}
use Rattle.strokes.specs.Square.{covers_square}
use Rattle.strokes.proofs.line.mark_squares.Given as goal

abbrev pub invariant-loop-square : goal.invariant-loop-square
invariant-loop-square l = record {
  width : length l.marks ≡ length l.fn.marks;
  all : (i : ℕ) → i < l.columns →
      is_marked l.marks i ≡ (list_any (λ s. covers_square s (pos i) (pos l.j)) (take l.square-index l.squares) || is_marked l.fn.marks i);
}
