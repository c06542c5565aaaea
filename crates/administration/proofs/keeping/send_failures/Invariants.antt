use Rattle.std.proofs.Common.{◌++◌}
use Rattle.streams.specs.Sent.{IsSent}
use Rattle.administration.specs.Keeping.{failed_lines}
use Rattle.administration.specs.Serving.{lines_of}
use Rattle.administration.proofs.keeping.send_failures.Given as goal

-- the lines so far were sent
abbrev pub invariant-loop : goal.invariant-loop
invariant-loop g l = IsSent g.O.Sink.held g.O.Sink.taken l.fn.writer (lines_of l.results ++ failed_lines l.counter) l.writer
