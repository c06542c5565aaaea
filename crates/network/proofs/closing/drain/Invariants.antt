use Rattle.std.proofs.Common.{◌≡◌, ℕ, ◌+◌, List, length}
use Rattle.std.specs.Io.KnownBytes.{Consumes}
use Rattle.network.proofs.closing.drain.Given as goal

-- the bytes read so far and those that may still be read add up to the limit
abbrev pub invariant-loop-left : goal.invariant-loop-left
invariant-loop-left g l = record {
  bytes : List ℕ;
  consumed : Consumes (g.R.Source.left l.fn.reader) (g.R.Source.left l.reader) bytes;
  count : length bytes + l.left ≡ 1048576;
}

abbrev pub decreases-loop-left : goal.decreases-loop-left
decreases-loop-left g l = l.left
