use Rattle.std.proofs.Common.{◌≡◌, take}
use Rattle.streams.specs.Sent.{IsSent}
use Rattle.administration.specs.Serving.{lines_of}
use Rattle.administration.proofs.results.send_results.Given as goal

-- the lines so far were sent
abbrev pub invariant-loop-done : goal.invariant-loop-done
invariant-loop-done g l = record {
  sent : IsSent g.O.Sink.held g.O.Sink.taken l.fn.writer (lines_of (take l.done-index l.done-items)) l.writer;
  flag : g.O.Sink.put_failed l.writer ≡ g.O.Sink.put_failed l.fn.writer;
}
