use Rattle.std.proofs.Common.{◌≡◌, ℕ, List, ◌++◌, take}
use Rattle.std.specs.List.{flat_map}
use Rattle.streams.specs.Sent.{IsSent}
use Rattle.streams.proofs.putting.put_pieces.Given as goal

-- what went out, and what is gathered, are the pieces so far
abbrev pub invariant-loop-piece : goal.invariant-loop-piece
invariant-loop-piece g l = record {
  text : List ℕ;
  all : text ++ l.gathered ≡ flat_map (λ piece. piece.now) (take l.piece-index l.pieces);
  sent : IsSent g.S.Sink.held g.S.Sink.taken l.fn.sink text l.sink;
  flag : g.S.Sink.put_failed l.sink ≡ g.S.Sink.put_failed l.fn.sink;
}
