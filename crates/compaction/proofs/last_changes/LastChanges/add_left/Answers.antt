use Rattle.std.proofs.Common.{◌+◌, refl, arith}
use Rattle.batches.proofs.Leading.{none-left, some-left}
use Rattle.compaction.proofs.Adding as adding
use Rattle.compaction.proofs.Adding.{add_kept, add_last, add_left_out, none-in, unread-in, unread-left}
use Rattle.compaction.proofs.last_changes.LastChanges.add_left.Goals as goal

pub returns-in_default : goal.returns-in_default
returns-in_default c = λ earlier later are counted.
    let some = some-left c.loop-rest.rest.now c.is_empty.result c.is_empty.ensures c.loop-rest-test.true in
    add_last c.args.self.now c.loop-rest.count c.loop-rest.rest.now c.loop-rest.out.items _ later _
    (unread-in c.loop-rest.rest.now c.in_default.field-0 some c.in_default.ensures.value) (unread-left c.loop-rest.rest.now later c.in_default.field-0 some c.in_default.ensures.value)
    (c.loop-rest.invariant earlier later are counted)

pub loop-rest-preserved-in_ok-extend_from_slice : goal.loop-rest-preserved-in_ok-extend_from_slice
loop-rest-preserved-in_ok-extend_from_slice c = λ earlier later are counted.
    let some = some-left c.loop-rest.rest.now c.is_empty.result c.is_empty.ensures c.loop-rest-test.true in
    add_kept c.args.self.now c.loop-rest.count (c.loop-rest.count + 1) c.loop-rest.rest.now c.in-Ok.after.now c.loop-rest.out.items _ later _ c.in-Ok.command some c.in-Ok.ensures.value
    refl (c.loop-rest.invariant earlier later are counted) c.extend_from_slice.new.self.items (omega (arith, c.last_undoing.ensures, c.if-last_undoing-count.true)) c.in_ok-extend_from_slice.ensures.items

pub loop-rest-preserved : goal.loop-rest-preserved
loop-rest-preserved c = λ earlier later are counted.
    let some = some-left c.loop-rest.rest.now c.is_empty.result c.is_empty.ensures c.loop-rest-test.true in
    add_left_out c.args.self.now c.loop-rest.count (c.loop-rest.count + 1) c.loop-rest.rest.now c.in-Ok.after.now c.loop-rest.out.items _ later _ c.in-Ok.command some c.in-Ok.ensures.value
    refl (c.loop-rest.invariant earlier later are counted) (omega (arith, c.last_undoing.ensures, c.if-last_undoing-count.false))

pub returns : goal.returns
returns c = λ earlier later are counted.
    let none = none-left c.loop-rest.rest.now c.is_empty.result c.is_empty.ensures c.loop-rest-test.false in
    add_last c.args.self.now c.loop-rest.count c.loop-rest.rest.now c.loop-rest.out.items _ later _
    (none-in c.loop-rest.rest.now none) (adding.none-left c.loop-rest.rest.now later none)
    (c.loop-rest.invariant earlier later are counted)
