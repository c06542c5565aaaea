use Rattle.std.proofs.Common.{◌≡◌, false, length, take}
use Rattle.std.specs.Io.KnownBytes.{Consumes}
use Rattle.std.specs.List.{list_any}
use Rattle.batches.specs.Command.{is_line_end}
use Rattle.administration.specs.declared.line.TheConstants.{MAX_LINE_BYTES}
use Rattle.administration.proofs.reading.read_line.Given as goal

-- the bytes that came have no LF
abbrev pub invariant-loop-at : goal.invariant-loop-at
invariant-loop-at g l = record {
  came : Consumes (g.I.Source.left l.fn.reader) (g.I.Source.left l.reader) (take l.at l.text);
  none : list_any is_line_end (take l.at l.text) ≡ false;
  room : length l.text ≡ MAX_LINE_BYTES;
}
