use Rattle.std.proofs.Common.{◌≡◌, ℕ, ◌+◌, List, length, IfSome}
use Rattle.std.specs.Io.KnownBytes.{Consumes}
use Rattle.administration.proofs.reading.read_batch.Given as goal

-- the bytes that came are held, where anything is
abbrev pub invariant-loop-left : goal.invariant-loop-left
invariant-loop-left g l = record {
  bytes : List ℕ;
  came : Consumes (g.I.Source.left l.fn.reader) (g.I.Source.left l.reader) bytes;
  count : length bytes + l.left ≡ l.fn.count;
  held : IfSome l.held (λ held. held.items ≡ bytes);
}

abbrev pub decreases-loop-left : goal.decreases-loop-left
decreases-loop-left g l = l.left
