use Rattle.std.proofs.Common.{◌≡◌, ◌≤◌, List, ◌++◌, length, drop, vec_len}
use Rattle.std.specs.Prelude.{vec_capacity}
use Rattle.batches.specs.Batch.{State}
use Rattle.mapmachine.specs.Machine.{Runs}
use Rattle.mapmachine.specs.declared.reply.Reply.{Reply}
use Rattle.mapmachine.proofs.machine.Machine.run.Given as goal

-- a run over the events that remain, after the replies so far, is a run over all events
abbrev pub invariant-loop-event : goal.invariant-loop-event
invariant-loop-event l = record {
  run : (replies : List Reply) (new : State) →
      Runs l.self (drop l.event-index l.events) replies new → Runs l.fn.self l.events (l.replies.items ++ replies) new;
  room : length l.events ≤ vec_capacity l.replies;
  count : vec_len l.replies ≡ l.event-index;
}
