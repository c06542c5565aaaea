use Rattle.std.proofs.Common.{◌∙◌, rules}
use Rattle.eventloop.proofs.Looping.{round-of}
use Rattle.eventloop.proofs.Working.{ran}
use Rattle.turns.proofs.Runs.{run-then}
use Rattle.eventloop.specs.Working.{state}
use Rattle.eventloop.proofs.worker.Worker.round.Goals as goal

pub returns-then-has_ended : goal.returns-then-has_ended
returns-then-has_ended g c = record {
  run = run-then g.A.Asks.answers g.T.Transport (state c.args.self.now) (state c.tick.new.self) (state c.has_ended.new.self) (run-then g.A.Asks.answers g.T.Transport (state c.args.self.now) (state c.make_room.new.self) (state c.tick.new.self) (run-then g.A.Asks.answers g.T.Transport (state c.args.self.now) (state c.serve_some.new.self) (state c.make_room.new.self) (run-then g.A.Asks.answers g.T.Transport (state c.args.self.now) (state c.take_over_all.new.self) (state c.serve_some.new.self) (run-then g.A.Asks.answers g.T.Transport (state c.args.self.now) (state c.obey-ending.new.self) (state c.take_over_all.new.self) c.obey-ending.ensures.run (ran g.A.Asks.answers g.T.Transport _ _ _ c.take_over_all.ensures.run)) c.serve_some.ensures.run) (ran g.A.Asks.answers g.T.Transport _ _ _ c.make_room.ensures.run)) (ran g.A.Asks.answers g.T.Transport _ _ _ c.tick.ensures.run)) c.has_ended.ensures.run;
  round = (
    c.orders.result,
    round-of g.A.Asks.answers g.T.Transport (λ _. Unit {0}) c.orders.result c.serve_some.result c.args.self.now c.obey-ending.new.self c.take_over_all.new.self c.serve_some.new.self c.make_room.new.self c.tick.new.self c.has_ended.new.self
        c.obey-ending.ensures.pressed c.obey-ending.ensures.asks c.obey-ending.ensures.moments
        c.take_over_all.ensures.run c.take_over_all.ensures.asks c.take_over_all.ensures.moments
        c.serve_some.ensures.turns c.serve_some.ensures.once c.serve_some.ensures.moments
        c.make_room.ensures.room c.make_room.ensures.asks c.make_room.ensures.moments
        c.tick.ensures.looks c.tick.ensures.asks c.tick.ensures.now c.tick.ensures.last_look
        (rw c.obey-ending.ensures.ending at c.has_ended.ensures.ends) c.has_ended.ensures.asks c.has_ended.ensures.moments,
    λ is same. c.has_ended.ensures.told (search rules) (c.obey-ending.ensures.ending ∙ same),
  );
  free = λ is. c.has_ended.ensures.free (search rules);
}

pub returns-else-has_ended : goal.returns-else-has_ended
returns-else-has_ended g c = record {
  run = run-then g.A.Asks.answers g.T.Transport (state c.args.self.now) (state c.tick.new.self) (state c.has_ended.new.self) (run-then g.A.Asks.answers g.T.Transport (state c.args.self.now) (state c.make_room.new.self) (state c.tick.new.self) (run-then g.A.Asks.answers g.T.Transport (state c.args.self.now) (state c.serve_some.new.self) (state c.make_room.new.self) (run-then g.A.Asks.answers g.T.Transport (state c.args.self.now) (state c.take_over_all.new.self) (state c.serve_some.new.self) (run-then g.A.Asks.answers g.T.Transport (state c.args.self.now) (state c.obey-ending.new.self) (state c.take_over_all.new.self) c.obey-ending.ensures.run (ran g.A.Asks.answers g.T.Transport _ _ _ c.take_over_all.ensures.run)) c.serve_some.ensures.run) (ran g.A.Asks.answers g.T.Transport _ _ _ c.make_room.ensures.run)) (ran g.A.Asks.answers g.T.Transport _ _ _ c.tick.ensures.run)) c.has_ended.ensures.run;
  round = (
    c.orders.result,
    round-of g.A.Asks.answers g.T.Transport (λ _. Unit {0}) c.orders.result c.serve_some.result c.args.self.now c.obey-ending.new.self c.take_over_all.new.self c.serve_some.new.self c.make_room.new.self c.tick.new.self c.has_ended.new.self
        c.obey-ending.ensures.pressed c.obey-ending.ensures.asks c.obey-ending.ensures.moments
        c.take_over_all.ensures.run c.take_over_all.ensures.asks c.take_over_all.ensures.moments
        c.serve_some.ensures.turns c.serve_some.ensures.once c.serve_some.ensures.moments
        c.make_room.ensures.room c.make_room.ensures.asks c.make_room.ensures.moments
        c.tick.ensures.looks c.tick.ensures.asks c.tick.ensures.now c.tick.ensures.last_look
        (rw c.obey-ending.ensures.ending at c.has_ended.ensures.ends) c.has_ended.ensures.asks c.has_ended.ensures.moments,
    λ is same. c.has_ended.ensures.told (search rules) (c.obey-ending.ensures.ending ∙ same),
  );
  free = λ is. c.has_ended.ensures.free (search rules);
}
