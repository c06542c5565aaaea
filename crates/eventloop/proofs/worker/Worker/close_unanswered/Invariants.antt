use Rattle.std.proofs.Common.{◌≡◌, length}
use Rattle.turns.specs.Runs.{HasRun}
use Rattle.turns.specs.Table.{connections}
use Rattle.eventloop.specs.Rounds.{KeepsMoments}
use Rattle.eventloop.specs.Working.{state}
use Rattle.eventloop.proofs.Looping.{AnsweredUpTo, FreeFrom}
use Rattle.eventloop.proofs.worker.Worker.close_unanswered.Given as goal

-- the connections at the slots so far left, where they aren't being answered
abbrev pub invariant-loop-slot : goal.invariant-loop-slot
invariant-loop-slot g l =
    HasRun g.A.Asks.answers g.T.Transport (state l.fn.self) (state l.self) × AnsweredUpTo l.slot l.self.table × FreeFrom (length (connections l.fn.self.table)) l.self.table × KeepsMoments l.fn.self l.self
    × (l.self.asks ≡ l.fn.self.asks) × (l.slot-end ≡ length (connections l.fn.self.table))
