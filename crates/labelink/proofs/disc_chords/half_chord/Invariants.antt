use Rattle.std.proofs.Common.{◌+◌, ◌*◌, ◌≤◌}
use Rattle.labelink.proofs.disc_chords.half_chord.Given as goal

abbrev pub invariant-loop-half : goal.invariant-loop-half
invariant-loop-half l = (l.half * l.half + l.down * l.down) ≤ (l.reach * l.reach)
