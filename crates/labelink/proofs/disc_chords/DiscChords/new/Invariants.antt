use Rattle.labelink.proofs.Chords.{HasHalfChords}
use Rattle.labelink.proofs.disc_chords.DiscChords.new.Given as goal

abbrev pub invariant-loop-down : goal.invariant-loop-down
invariant-loop-down l = HasHalfChords l.reach l.down l.halves.items
