use Rattle.turns.specs.Runs.{HasRun}
use Rattle.eventloop.specs.Rounds.{HasWorked}
use Rattle.eventloop.specs.Working.{state}
use Rattle.eventloop.proofs.rounds.work.Given as goal

-- the worker made some rounds
abbrev pub invariant-loop : goal.invariant-loop
invariant-loop g l =
    HasRun g.A.Asks.answers g.T.Transport (state l.fn.worker) (state l.worker) × HasWorked g.A.Asks.answers g.T.Transport (g.C.TurnClock.shows l.fn.clock) l.fn.worker l.worker
