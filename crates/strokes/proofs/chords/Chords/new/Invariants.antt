use Rattle.strokes.proofs.Chording.{HasHalves}
use Rattle.strokes.proofs.chords.Chords.new.Given as goal

abbrev pub invariant-loop-down : goal.invariant-loop-down
invariant-loop-down l = HasHalves l.width l.down l.halves.items
