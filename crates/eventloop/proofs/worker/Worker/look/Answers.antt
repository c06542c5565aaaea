use Rattle.std.proofs.Common.{◌∙◌, arith}
use Rattle.eventloop.proofs.Looping.{moments-then}
use Rattle.eventloop.proofs.Working.{goes-then, in-time-next, ran-then}
use Rattle.eventloop.specs.Working.{state}
use Rattle.eventloop.proofs.worker.Worker.look.Goals as goal

pub loop-slot-preserved : goal.loop-slot-preserved
loop-slot-preserved g c = (
  ran-then g.A.Asks.answers g.T.Transport c.args.self.now.now c.loop-slot.self.now (state c.args.self.now) (state c.loop-slot.self) (state c.close_overdue.new.self) c.loop-slot.invariant.0 c.close_overdue.ensures.run c.loop-slot.invariant.3.0,
  goes-then c.args.self.now.table c.loop-slot.self.table c.close_overdue.new.self.table c.loop-slot.invariant.1 c.close_overdue.ensures.goes,
  in-time-next c.args.self.now.now c.loop-slot.self.now c.loop-slot.slot c.loop-slot.self.table c.close_overdue.new.self.table c.loop-slot.invariant.2 c.close_overdue.ensures.others c.close_overdue.ensures.goes c.loop-slot.invariant.3.0 c.close_overdue.ensures.in_time,
  moments-then c.args.self.now c.loop-slot.self c.close_overdue.new.self c.loop-slot.invariant.3 c.close_overdue.ensures.moments,
  c.loop-slot.invariant.4,
  c.close_overdue.ensures.asks ∙ c.loop-slot.invariant.5,
)

pub returns-clause-looked : goal.returns-clause-looked
returns-clause-looked g c = record {
  goes = c.loop-slot.invariant.1;
  in_time = λ one less idle. c.loop-slot.invariant.2 one (omega (arith, less, c.loop-slot-test.false, c.loop-slot.invariant.4)) idle;
}
