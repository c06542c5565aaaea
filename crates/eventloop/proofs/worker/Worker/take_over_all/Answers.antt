use Rattle.std.proofs.Common.{◌∙◌}
use Rattle.eventloop.proofs.Looping.{moments-then}
use Rattle.eventloop.proofs.Working.{ran-then}
use Rattle.eventloop.specs.Working.{state}
use Rattle.eventloop.proofs.worker.Worker.take_over_all.Goals as goal

pub loop-preserved : goal.loop-preserved
loop-preserved g c = (
  ran-then g.A.Asks.answers g.T.Transport c.args.self.now.now c.loop.self.now (state c.args.self.now) (state c.loop.self) (state c.take_over.new.self) c.loop.invariant.0 c.take_over.ensures.run c.loop.invariant.1.0,
  moments-then c.args.self.now c.loop.self c.take_over.new.self c.loop.invariant.1 c.take_over.ensures.moments,
  c.take_over.ensures.asks ∙ c.loop.invariant.2,
)

pub returns-then-not-take_over-clause-run : goal.returns-then-not-take_over-clause-run
returns-then-not-take_over-clause-run g c = ran-then g.A.Asks.answers g.T.Transport c.args.self.now.now c.loop.self.now (state c.args.self.now) (state c.loop.self) (state c.take_over.new.self) c.loop.invariant.0 c.take_over.ensures.run c.loop.invariant.1.0

pub returns-then-not-take_over-clause-moments : goal.returns-then-not-take_over-clause-moments
returns-then-not-take_over-clause-moments g c = moments-then c.args.self.now c.loop.self c.take_over.new.self c.loop.invariant.1 c.take_over.ensures.moments

pub returns-then-not-take_over-clause-asks : goal.returns-then-not-take_over-clause-asks
returns-then-not-take_over-clause-asks g c = c.take_over.ensures.asks ∙ c.loop.invariant.2
