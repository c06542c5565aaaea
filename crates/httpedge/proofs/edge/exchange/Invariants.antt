use Rattle.std.proofs.Common.{◌≡◌, ◌+◌, ◌≤◌, ℕ, List}
use Rattle.std.specs.List.{concat}
use Rattle.streams.specs.Sent.{IsSent}
use Rattle.httpedge.specs.Serving.{IsReading, HasCome, rest_of_course, missing}
use Rattle.httpedge.specs.declared.conn.TheConstants.{REQUESTS}
use Rattle.httpedge.proofs.Wanted.{HasGoneOn}
use Rattle.httpedge.proofs.Serving.{so_far}
use Rattle.httpedge.proofs.edge.exchange.Given as goal

-- the heads of the bytes read so far were answered, and a further read is needed
abbrev pub invariant-loop-count : goal.invariant-loop-count
invariant-loop-count g l = record {
  pieces : List (List ℕ);
  text : List ℕ;
  reading : IsReading l.conn;
  come : HasCome g.A.Asks.answers REQUESTS (so_far (concat pieces) l.fn.asks text) (rest_of_course l.conn l.asks);
  sent : IsSent g.W.Sink.held g.W.Sink.taken l.fn.writer text l.writer;
  gone : HasGoneOn g.R.Source.left g.R.Source.took pieces l.fn.reader l.reader;
  few : g.R.Source.reads l.reader + missing l.conn ≤ g.R.Source.reads l.fn.reader + 16384000;
  read_flag : g.R.Source.take_failed l.reader ≡ g.R.Source.take_failed l.fn.reader;
  write_flag : g.W.Sink.put_failed l.writer ≡ g.W.Sink.put_failed l.fn.writer;
}

-- each read gives a byte at least, and a connection has a limit
abbrev pub decreases-loop-count : goal.decreases-loop-count
decreases-loop-count g l = missing l.conn
