use Rattle.std.proofs.Common.{◌≡◌, ℕ, ◌<◌, ◌≤◌, true}
use Rattle.strokes.specs.Chord.{is_beside}
use Rattle.strokes.proofs.round_step.RoundStep.right_of.Given as goal

abbrev pub invariant-loop-column : goal.invariant-loop-column
invariant-loop-column l = (i : ℕ) → l.to ≤ i → i < l.column → is_beside l.self.width l.self.edge l.row i ≡ true
