use Rattle.std.proofs.Common.{◌≡◌, ◌+◌, ◌-◌, ◌^◌, length}
use Rattle.journalfile.specs.Frames.{IsRead}
use Rattle.journalfile.proofs.Pieces.{IsSoFar}
use Rattle.journalfile.proofs.frames.Frames.next_frame.Given as goal

-- the bytes of the frame so far and those left are all
abbrev pub invariant-loop-frame : goal.invariant-loop-frame
invariant-loop-frame g l = record {
  moved : l.self.position ≡ l.fn.self.position + length l.frame.items;
  so_far : g.L.Log.reliable → IsSoFar (g.L.Log.content l.fn.log) l.fn.self l.self l.frame.items;
  read : g.L.Log.reliable → IsRead g.L.Log.content g.L.Log.may_leave g.L.Log.moment g.L.Log.left_since l.fn.log l.log;
}

abbrev pub decreases-loop-frame : goal.decreases-loop-frame
decreases-loop-frame g l = 2 ^ 64 - l.self.position
