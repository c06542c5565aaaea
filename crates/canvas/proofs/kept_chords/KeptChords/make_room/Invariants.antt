use Rattle.std.proofs.Common.{◌≡◌, length}
use Rattle.canvas.proofs.kept_chords.KeptChords.make_room.Given as goal

abbrev pub invariant-loop : goal.invariant-loop
invariant-loop l = length l.self.by_width.items ≡ l.counter
