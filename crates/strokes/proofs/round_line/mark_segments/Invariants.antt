use Rattle.std.proofs.Common.{◌≡◌, ℕ, ◌<◌, ◌||◌, length, take}
use lib.IntN.{pos}
use Rattle.std.specs.List.{list_any}
use Rattle.strokes.specs.Columns.{is_marked}
use Rattle.strokes.specs.Round.{has_centre}
use Rattle.strokes.proofs.round_line.mark_segments.Given as goal

abbrev pub invariant-loop-segment : goal.invariant-loop-segment
invariant-loop-segment l = record {
  width : length l.marks ≡ length l.fn.marks;
  all : (i : ℕ) → i < l.columns →
      is_marked l.marks i ≡ (list_any (has_centre (pos i) (pos l.j)) (take l.segment-index l.segments) || is_marked l.fn.marks i);
}
