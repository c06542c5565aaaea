use Rattle.std.proofs.Common.{◌∙◌, ◌+◌, [], inl, inr, refl, rules, subst, arith}
use Rattle.eventloop.proofs.Looping.{moments-then}
use Rattle.eventloop.proofs.Working.{turned-fewer, turned-ran, turned-run, turned-then}
use Rattle.httpedge.specs.Session.{HasAsked}
use Rattle.turns.proofs.Runs.{run-then}
use Rattle.eventloop.specs.Working.{state}
use Rattle.eventloop.proofs.worker.Worker.serve_some.Goals as goal

pub loop-preserved : goal.loop-preserved
loop-preserved g c = (
  turned-then g.A.Asks.answers g.T.Transport c.loop.counter 1 c.args.self.now.now c.loop.self.now (state c.args.self.now) (state c.loop.self) (state c.serve_one.new.self) c.loop.invariant.0 c.in-Some-false.ensures.turn c.loop.invariant.1.0,
  moments-then c.args.self.now c.loop.self c.serve_one.new.self c.loop.invariant.1 c.serve_one.ensures.moments,
  c.in-Some-false.ensures.unasked (search rules) ∙ c.loop.invariant.2,
)

pub returns-in-None-clause-turns : goal.returns-in-None-clause-turns
returns-in-None-clause-turns g c =
    inr (state c.loop.self, turned-ran g.A.Asks.answers g.T.Transport c.loop.counter c.args.self.now.now (state c.args.self.now) (state c.loop.self) c.loop.invariant.0, c.in-None.ensures.turn.0, c.in-None.ensures.turn.1)

pub returns-in-None-clause-run : goal.returns-in-None-clause-run
returns-in-None-clause-run g c =
    run-then g.A.Asks.answers g.T.Transport (state c.args.self.now) (state c.loop.self) (state c.serve_one.new.self) (turned-run g.A.Asks.answers g.T.Transport c.loop.counter c.args.self.now.now (state c.args.self.now) (state c.loop.self) c.loop.invariant.0) c.in-None.ensures.turn.1

pub returns-in-None-clause-once : goal.returns-in-None-clause-once
returns-in-None-clause-once g c = ([], inl (refl, c.in-None.ensures.unasked ∙ c.loop.invariant.2))

pub returns-in-Some-true-clause-turns : goal.returns-in-Some-true-clause-turns
returns-in-Some-true-clause-turns g c =
    turned-fewer g.A.Asks.answers g.T.Transport (c.loop.counter + 1) 1 c.args.self.now.now (state c.args.self.now) (state c.serve_one.new.self) (omega arith)
    (turned-then g.A.Asks.answers g.T.Transport c.loop.counter 1 c.args.self.now.now c.loop.self.now (state c.args.self.now) (state c.loop.self) (state c.serve_one.new.self) c.loop.invariant.0 c.in-Some-true.ensures.turn c.loop.invariant.1.0)

pub returns-in-Some-true-clause-run : goal.returns-in-Some-true-clause-run
returns-in-Some-true-clause-run g c =
    turned-run g.A.Asks.answers g.T.Transport (c.loop.counter + 1) c.args.self.now.now (state c.args.self.now) (state c.serve_one.new.self)
    (turned-then g.A.Asks.answers g.T.Transport c.loop.counter 1 c.args.self.now.now c.loop.self.now (state c.args.self.now) (state c.loop.self) (state c.serve_one.new.self) c.loop.invariant.0 c.in-Some-true.ensures.turn c.loop.invariant.1.0)

pub returns-in-Some-true-clause-once : goal.returns-in-Some-true-clause-once
returns-in-Some-true-clause-once g c =
    let (queries, asked) = c.serve_one.ensures.once in
    (queries, subst (λ (a : g.row.A.Denot). HasAsked g.A.Asks.answers a queries c.serve_one.new.self.asks) c.loop.invariant.2 asked)

pub returns-clause-once : goal.returns-clause-once
returns-clause-once g c = ([], inl (refl, c.loop.invariant.2))
