use Rattle.std.proofs.Common.{length, arith}
use Rattle.eventloop.proofs.Looping.{answered-all, answered-next, free-next}
use Rattle.eventloop.proofs.Working.{unanswered-run}
use Rattle.turns.specs.Table.{connections}
use Rattle.turns.proofs.Runs.{run-then}
use Rattle.eventloop.specs.Working.{state}
use Rattle.eventloop.proofs.worker.Worker.close_unanswered.Goals as goal

pub loop-slot-preserved : goal.loop-slot-preserved
loop-slot-preserved g c = (
  run-then g.A.Asks.answers g.T.Transport (state c.args.self.now) (state c.loop-slot.self) (record { table = c.close_unanswered.new.self; asks = c.loop-slot.self.asks }) c.loop-slot.invariant.0
      (unanswered-run g.A.Asks.answers g.T.Transport c.loop-slot.slot c.loop-slot.self.table c.close_unanswered.new.self c.loop-slot.self.asks c.close_unanswered.result c.close_unanswered.ensures.unanswered c.close_unanswered.ensures.left c.close_unanswered.ensures.goes),
  answered-next c.loop-slot.slot c.close_unanswered.result c.loop-slot.self.table c.close_unanswered.new.self c.loop-slot.invariant.1 c.close_unanswered.ensures.left c.close_unanswered.ensures.answered,
  free-next (length (connections c.args.self.now.table)) c.loop-slot.slot c.close_unanswered.result c.loop-slot.self.table c.close_unanswered.new.self c.loop-slot.invariant.2 (omega (arith, c.loop-slot-test.true, c.loop-slot.invariant.5)) c.close_unanswered.ensures.left,
  c.loop-slot.invariant.3,
  c.loop-slot.invariant.4,
  c.loop-slot.invariant.5,
)

pub returns-clause-closed : goal.returns-clause-closed
returns-clause-closed g c =
    answered-all (length (connections c.args.self.now.table)) c.loop-slot.self.table (λ one less. c.loop-slot.invariant.1 one (omega (arith, less, c.loop-slot-test.false, c.loop-slot.invariant.5))) c.loop-slot.invariant.2
