use Rattle.std.proofs.Common.{◌≡◌}
use Rattle.std.specs.Prelude.{length}
use Rattle.eventloop.specs.Rounds.{KeepsMoments}
use Rattle.eventloop.specs.Working.{HasRunAt, InTime, state}
use Rattle.turns.specs.Table.{Goes, connections}
use Rattle.eventloop.proofs.worker.Worker.look.Given as goal

-- the slots so far were looked at
abbrev pub invariant-loop-slot : goal.invariant-loop-slot
invariant-loop-slot g l =
    HasRunAt g.A.Asks.answers g.T.Transport l.fn.self.now (state l.fn.self) (state l.self) × Goes l.fn.self.table l.self.table × InTime l.fn.self.now l.slot l.self.table
    × KeepsMoments l.fn.self l.self × (l.slot-end ≡ length (connections l.fn.self.table)) × (l.self.asks ≡ l.fn.self.asks)
