use Rattle.std.proofs.Common.{◌≡◌, ℕ, ◌<◌, ◌≤◌, true}
use Rattle.strokes.specs.Chord.{is_beside}
use Rattle.strokes.proofs.round_step.RoundStep.left_of.Given as goal

abbrev pub invariant-loop-left : goal.invariant-loop-left
invariant-loop-left l = record {
  order : l.left ≤ l.from;
  all : (i : ℕ) → l.left ≤ i → i < l.from → is_beside l.self.width l.self.edge l.row i ≡ true;
}

abbrev pub decreases-loop-left : goal.decreases-loop-left
decreases-loop-left l = l.left
