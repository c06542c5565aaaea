use Rattle.std.proofs.Common.{◌≡◌, length}
use Rattle.strokes.specs.Chord.{ArePlain}
use Rattle.strokes.proofs.chords.plain_lengths.Given as goal

abbrev pub invariant-loop-length : goal.invariant-loop-length
invariant-loop-length l = record {
  count : length l.plain.items ≡ l.length;
  plain : ArePlain l.width l.plain.items;
}
