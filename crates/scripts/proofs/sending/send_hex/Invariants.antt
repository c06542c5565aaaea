use Rattle.std.proofs.Common.{◌≡◌, ℕ, List, ◌++◌, length}
use Rattle.streams.specs.Sent.{IsSent}
use Rattle.scripts.specs.Transcript.{hex_lines}
use Rattle.scripts.proofs.sending.send_hex.Given as goal

-- the lines written and those of the rest are the lines of all
abbrev pub invariant-loop-rest : goal.invariant-loop-rest
invariant-loop-rest g l = record {
  text : List ℕ;
  all : text ++ hex_lines l.rest ≡ hex_lines l.bytes;
  sent : IsSent g.S.Sink.held g.S.Sink.taken l.fn.sink text l.sink;
  flag : g.S.Sink.put_failed l.sink ≡ g.S.Sink.put_failed l.fn.sink;
}

abbrev pub decreases-loop-rest : goal.decreases-loop-rest
decreases-loop-rest g l = length l.rest
