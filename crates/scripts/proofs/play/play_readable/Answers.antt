use Rattle.std.proofs.Common.{◌∙◌, ◌+◌, ◌++◌, [], ◌∷◌, refl, append_assoc, append-nil, arith}
use Rattle.streams.proofs.Sending.{on-err, nothing-sent}
use Rattle.scripts.proofs.Playing.{readable, has-played, has-stopped, run-then, at-none, sent-reply}
use Rattle.scripts.proofs.ScriptSteps.{events-step, events-none}
use Rattle.scripts.proofs.play.play_readable.Goals as goal

pub loop-event-init : goal.loop-event-init
loop-event-init g c =
    let (events, all) = readable _ c.requires.readable in
    record {
      done = [];
      left = events;
      all = all;
      number = 1;
      reads = all;
      replies = [];
      run = refl;
      sent = nothing-sent _ _ _;
      flag = refl;
    }

pub returns-in_err-play_event-clause-part : goal.returns-in_err-play_event-clause-part
returns-in_err-play_event-clause-part g c =
    let before = c.loop-event.invariant in
    let (others, is, later) = events-step _ _ _ _ _ (omega (arith, c.in-Some.ensures.shrinks)) c.in-Some.ensures.value before.reads in
    on-err c.from_residual.result _ (has-stopped _ _ _ _ _ _ _ _ _ _ _ _ _ _ before.all is before.run before.sent c.in_err-play_event.ensures.part)

pub loop-event-preserved : goal.loop-event-preserved
loop-event-preserved g c =
    let before = c.loop-event.invariant in
    let (others, is, later) = events-step _ _ _ _ _ (omega (arith, c.in-Some.ensures.shrinks)) c.in-Some.ensures.value before.reads in
    let r = c.in_ok-play_event.ensures.ok in
    record {
      done = before.done ++ c.in-Some.event ∷ [];
      left = others;
      all = rw (append_assoc before.done _ others, ← is) before.all;
      number = before.number + 1;
      reads = later;
      replies = before.replies ++ r.reply ∷ [];
      run = run-then _ _ _ _ _ _ _ before.run r.step;
      sent = sent-reply _ _ _ _ _ _ _ before.sent r.sent;
      flag = c.in_ok-play_event.ensures.flag ∙ before.flag;
    }

pub returns-clause-played : goal.returns-clause-played
returns-clause-played g c =
    let before = c.loop-event.invariant in
    let nothing = events-none _ _ _ (at-none _ _ _ c.split_command.ensures.value c.in_default.not-Some) before.reads in
    has-played _ _ _ _ _ _ _ _ _ (rw (nothing, append-nil) at before.all) before.run before.sent
