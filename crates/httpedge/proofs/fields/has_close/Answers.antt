use Rattle.httpedge.proofs.Parts.{is-first, is-last, is-later}
use Rattle.httpedge.proofs.fields.has_close.Goals as goal

pub returns-then-is_close : goal.returns-then-is_close
returns-then-is_close c =
    is-first c.loop-after.rest.now c.args.value.now c.part_len.result c.is_close.result c.part_len.ensures.value c.part_len.ensures.bound (rw (← c.split_at.ensures.front) c.is_close.ensures) c.if-is_close.true
    c.loop-after.invariant

pub returns-in_default : goal.returns-in_default
returns-in_default c =
    is-last c.loop-after.rest.now c.args.value.now c.split_at.result.1.now c.part_len.result c.is_close.result c.part_len.ensures.value c.part_len.ensures.bound (rw (← c.split_at.ensures.front) c.is_close.ensures)
    c.if-is_close.false c.split_at.ensures.back c.in_default.ensures.cases c.loop-after.invariant

pub loop-after-preserved : goal.loop-after-preserved
loop-after-preserved c =
    is-later c.loop-after.rest.now c.args.value.now c.split_at.result.1.now c.in-Some.others.now c.in-Some.field-0-0.now c.part_len.result c.is_close.result c.part_len.ensures.value c.part_len.ensures.bound
    (rw (← c.split_at.ensures.front) c.is_close.ensures) c.if-is_close.false c.split_at.ensures.back c.in-Some.ensures.cases.0 c.loop-after.invariant
