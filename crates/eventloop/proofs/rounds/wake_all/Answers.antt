use Rattle.std.proofs.Common.{◌∙◌}
use Rattle.eventloop.proofs.Working.{goes-then, woken-next}
use Rattle.eventloop.proofs.rounds.wake_all.Goals as goal

pub loop-slot-preserved : goal.loop-slot-preserved
loop-slot-preserved g c = (
  woken-next c.args.slots.now c.loop-slot.slot-index c.args.table.now c.loop-slot.table c.wake.new.self c.loop-slot.invariant.0 c.loop-slot.invariant.1 c.wake.ensures.goes c.wake.ensures.ready,
  c.wake.ensures.connections ∙ c.loop-slot.invariant.1,
  goes-then c.args.table.now c.loop-slot.table c.wake.new.self c.loop-slot.invariant.2 c.wake.ensures.goes,
)
