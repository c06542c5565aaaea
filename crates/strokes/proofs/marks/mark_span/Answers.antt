use Rattle.std.proofs.Common.{◌≡◌, arith}
use Rattle.strokes.proofs.Marking.{marked-next, marked-none}
use Rattle.strokes.proofs.marks.mark_span.Goals as goal

pub loop-column-init : goal.loop-column-init
loop-column-init c = marked-none c.args.span.from c.args.marks.now

pub loop-column-preserved : goal.loop-column-preserved
loop-column-preserved c =
    let l = c.loop-column in
    rw c.from.ensures
    (marked-next c.args.span.from l.column c.args.marks.now l.marks l.auto.column (omega (arith, c.requires.within, l.auto.marks, c.loop-column-test.true)) l.invariant)

pub returns : goal.returns
returns c =
    let l = c.loop-column in
    let end : l.column ≡ c.args.span.to = omega (arith, c.requires.some, l.auto.column-end, c.loop-column-test.false) in
    rw end at l.invariant
