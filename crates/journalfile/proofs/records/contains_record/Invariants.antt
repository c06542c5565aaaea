use Rattle.std.proofs.Common.{◌≤◌, ◌-◌, ◌^◌, drop}
use Rattle.journal.specs.Name.{name_bytes}
use Rattle.journalfile.specs.Frames.{IsAhead, IsRead}
use Rattle.journalfile.proofs.Searching.{AreFrom}
use Rattle.journalfile.proofs.records.contains_record.Given as goal

-- the records are those from the last END on
abbrev pub invariant-loop-frame : goal.invariant-loop-frame
invariant-loop-frame g l = record {
  later : l.fn.frames.position ≤ l.frames.position;
  ahead : g.L.Log.reliable → IsAhead (g.L.Log.content l.fn.log) l.frames;
  from : g.L.Log.reliable → AreFrom (name_bytes l.name) (drop l.fn.frames.position (g.L.Log.content l.fn.log)) (drop l.frames.position (g.L.Log.content l.fn.log));
  read : g.L.Log.reliable → IsRead g.L.Log.content g.L.Log.may_leave g.L.Log.moment g.L.Log.left_since l.fn.log l.log;
}

abbrev pub decreases-loop-frame : goal.decreases-loop-frame
decreases-loop-frame g l = 2 ^ 64 - l.frames.position
