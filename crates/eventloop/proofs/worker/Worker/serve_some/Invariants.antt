use Rattle.std.proofs.Common.{◌≡◌}
use Rattle.eventloop.specs.Rounds.{KeepsMoments}
use Rattle.eventloop.specs.Working.{HasTurned, state}
use Rattle.eventloop.proofs.worker.Worker.serve_some.Given as goal

-- so many turns were made, and no query was asked
abbrev pub invariant-loop : goal.invariant-loop
invariant-loop g l = HasTurned g.A.Asks.answers g.T.Transport (record { least = l.counter; now = l.fn.self.now }) (state l.fn.self) (state l.self) × KeepsMoments l.fn.self l.self × (l.self.asks ≡ l.fn.self.asks)
