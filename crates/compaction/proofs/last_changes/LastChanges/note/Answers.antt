use Rattle.batches.proofs.Leading.{none-left, some-left}
use Rattle.compaction.proofs.Adding.{note_last, note_next, none-in, unread-in}
use Rattle.compaction.proofs.last_changes.LastChanges.note.Goals as goal

pub returns-in_default : goal.returns-in_default
returns-in_default c = λ commands are.
    note_last c.loop-rest.self c.loop-rest.rest.now _
    (unread-in c.loop-rest.rest.now c.in_default.field-0 (some-left c.loop-rest.rest.now c.is_empty.result c.is_empty.ensures c.loop-rest-test.true) c.in_default.ensures.value)
    (c.loop-rest.invariant commands are)

pub loop-rest-preserved : goal.loop-rest-preserved
loop-rest-preserved c = λ commands are.
    note_next c.loop-rest.self c.note_command.new.self c.loop-rest.rest.now c.in-Ok.after.now c.in-Ok.command _
    (some-left c.loop-rest.rest.now c.is_empty.result c.is_empty.ensures c.loop-rest-test.true) c.in-Ok.ensures.value
    c.in_ok-note_command.ensures.count c.in_ok-note_command.ensures.last (c.loop-rest.invariant commands are)

pub returns : goal.returns
returns c = λ commands are.
    note_last c.loop-rest.self c.loop-rest.rest.now _
    (none-in c.loop-rest.rest.now (none-left c.loop-rest.rest.now c.is_empty.result c.is_empty.ensures c.loop-rest-test.false))
    (c.loop-rest.invariant commands are)
