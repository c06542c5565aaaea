use Rattle.std.proofs.Common.{◌≡◌, ◌-◌, ◌^◌}
use Rattle.std.specs.Prelude.{vec_len}
use Rattle.std.specs.Io.KnownBytes.{Consumes}
use Rattle.console.proofs.input.read_all.Given as goal

-- the bytes read so far were consumed of the input
abbrev pub invariant-loop-count : goal.invariant-loop-count
invariant-loop-count g l = record {
  bytes : Consumes (g.I.Source.left l.fn.input) (g.I.Source.left l.input) l.bytes.items;
  flag : g.I.Source.take_failed l.input ≡ g.I.Source.take_failed l.fn.input;
}

-- each round takes a byte at least, and a list is shorter than 2 ^ 64
abbrev pub decreases-loop-count : goal.decreases-loop-count
decreases-loop-count g l = 2 ^ 64 - vec_len l.bytes
