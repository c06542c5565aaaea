use Rattle.std.proofs.Common.{◌≡◌, ◌⊎◌, ◌<◌, ℕ, List, ◌++◌}
use Rattle.streams.specs.Sent.{IsSent}
use Rattle.httpedge.specs.Serving.{IsReading, HasCome, requests_left, came_of, rest_of_course, missing}
use Rattle.httpedge.proofs.Serving.{so_far}
use Rattle.httpedge.proofs.edge.answer_piece.Given as goal

-- a prefix of the piece was read and its heads answered, and the rest is left
abbrev pub invariant-loop-decision : goal.invariant-loop-decision
invariant-loop-decision g l = record {
  prefix : List ℕ;
  text : List ℕ;
  all : prefix ++ l.rest ≡ l.piece;
  reading : IsReading l.conn;
  come : HasCome g.A.Asks.answers (requests_left l.fn.conn) (so_far (came_of l.fn.conn.progress ++ prefix) l.fn.asks text) (rest_of_course l.conn l.asks);
  sent : IsSent g.W.Sink.held g.W.Sink.taken l.fn.writer text l.writer;
  less : (l.rest ≡ l.piece) × (missing l.conn ≡ missing l.fn.conn) ⊎ (missing l.conn < missing l.fn.conn);
  flag : g.W.Sink.put_failed l.writer ≡ g.W.Sink.put_failed l.fn.writer;
}

-- each head that is answered is one of those that the connection may have
abbrev pub decreases-loop-decision : goal.decreases-loop-decision
decreases-loop-decision g l = requests_left l.conn
