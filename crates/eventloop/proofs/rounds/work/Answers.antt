use Rattle.std.proofs.Common.{rules}
use Rattle.eventloop.proofs.Looping.{worked-none, worked-then}
use Rattle.turns.proofs.Runs.{run-none, run-then}
use Rattle.eventloop.specs.Working.{state}
use Rattle.eventloop.proofs.rounds.work.Goals as goal

pub loop-init : goal.loop-init
loop-init g c = (run-none g.A.Asks.answers g.T.Transport (state c.args.worker), worked-none g.A.Asks.answers g.T.Transport (g.C.TurnClock.shows c.args.clock.now) c.args.worker)

pub loop-preserved : goal.loop-preserved
loop-preserved g c = (
  run-then g.A.Asks.answers g.T.Transport (state c.args.worker) (state c.wait_by.new.self) (state c.round.new.self)
      (run-then g.A.Asks.answers g.T.Transport (state c.args.worker) (state c.loop.worker) (state c.wait_by.new.self) c.loop.invariant.0 c.wait_by.ensures.run) c.round.ensures.run,
  worked-then g.A.Asks.answers g.T.Transport (g.C.TurnClock.shows c.args.clock.now) c.args.worker c.loop.worker c.wait_by.new.self c.round.new.self c.round.ensures.round.0 c.loop.invariant.1 c.wait_by.ensures.waited c.round.ensures.round.1,
)

pub returns-then-round : goal.returns-then-round
returns-then-round g c = record {
  run = run-then g.A.Asks.answers g.T.Transport (state c.args.worker) (state c.wait_by.new.self) (state c.round.new.self)
      (run-then g.A.Asks.answers g.T.Transport (state c.args.worker) (state c.loop.worker) (state c.wait_by.new.self) c.loop.invariant.0 c.wait_by.ensures.run) c.round.ensures.run;
  finished = record {
    before = c.loop.worker;
    worked = c.loop.invariant.1;
    woken = c.wait_by.new.self;
    waited = c.wait_by.ensures.waited;
    orders = c.round.ensures.round.0;
    told = c.round.ensures.round.2 (search rules);
    round = c.round.ensures.round.1;
  };
  free = c.round.ensures.free (search rules);
}
