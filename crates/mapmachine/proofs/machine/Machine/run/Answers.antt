use Rattle.std.proofs.Common.{[], refl, append-nil, drop_of_length-le}
use Rattle.mapmachine.proofs.machine.Machine.run.Goals as goal

pub returns-clause-run : goal.returns-clause-run
returns-clause-run c =
    let nothing = drop_of_length-le c.args.events.now c.loop-event-test.false in
    rw c.of.ensures (rw append-nil at (c.loop-event.invariant.run [] c.loop-event.self (rw nothing refl)))
