use Rattle.std.proofs.Common.{◌≡◌, ℕ, List, ◌++◌, Ok, length}
use Rattle.mapmachine.specs.Machine.{Runs}
use Rattle.mapmachine.specs.declared.reply.Event.{Event}
use Rattle.mapmachine.specs.declared.reply.Reply.{Reply}
use Rattle.scripts.specs.Script.{script_of}
use Rattle.streams.specs.Sent.{IsSent}
use Rattle.scripts.specs.Transcript.{transcript}
use Rattle.scripts.proofs.ScriptSteps.{script_from}
use Rattle.scripts.proofs.play.play_readable.Given as goal

-- the events of the script that were played, and those left; the replies to the played ones led to the machine's state, and they were sent
abbrev pub invariant-loop-event : goal.invariant-loop-event
invariant-loop-event g l = record {
  done : List Event;
  left : List Event;
  all : script_of l.script ≡ Ok (done ++ left);
  number : ℕ;
  reads : script_from number l.rest ≡ Ok left;
  replies : List Reply;
  run : Runs l.fn.machine done replies l.machine;
  sent : IsSent g.S.Sink.held g.S.Sink.taken l.fn.sink (transcript replies) l.sink;
  flag : g.S.Sink.put_failed l.sink ≡ g.S.Sink.put_failed l.fn.sink;
}

abbrev pub decreases-loop-event : goal.decreases-loop-event
decreases-loop-event g l = length l.rest
