use Rattle.std.proofs.Common.{◌≡◌}
use Rattle.eventloop.specs.Rounds.{KeepsMoments}
use Rattle.eventloop.specs.Working.{HasRunAt, state}
use Rattle.eventloop.proofs.worker.Worker.take_over_all.Given as goal

-- the table made some steps, and nothing was asked
abbrev pub invariant-loop : goal.invariant-loop
invariant-loop g l = HasRunAt g.A.Asks.answers g.T.Transport l.fn.self.now (state l.fn.self) (state l.self) × KeepsMoments l.fn.self l.self × (l.self.asks ≡ l.fn.self.asks)
