use Rattle.std.proofs.Common.{◌≡◌, ◌+◌, length}
use Rattle.journalfile.specs.Frames.{IsRead}
use Rattle.journalfile.proofs.Pieces.{IsTaken}
use Rattle.journalfile.proofs.frames.Frames.next_bytes.Given as goal

-- the bytes so far and those left are all
abbrev pub invariant-loop : goal.invariant-loop
invariant-loop g l = record {
  counted : length l.taken.items ≡ l.counter;
  moved : l.self.position ≡ l.fn.self.position + length l.taken.items;
  so_far : g.L.Log.reliable → IsTaken (g.L.Log.content l.fn.log) l.fn.self l.self l.taken.items;
  read : g.L.Log.reliable → IsRead g.L.Log.content g.L.Log.may_leave g.L.Log.moment g.L.Log.left_since l.fn.log l.log;
}
