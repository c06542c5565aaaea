use Rattle.std.proofs.Common.{sym, arith}
use Rattle.std.proofs.lemmas.Int.{ints}
use Rattle.scanfill.proofs.Words.{step-is, step_more-is, over-is, over_more-is}
use Rattle.scanfill.proofs.Steps.{next-fewer, next-same}
use Rattle.scanfill.proofs.row_crossing.RowCrossing.next.Goals as goal

pub returns-then-self-slope : goal.returns-then-self-slope
returns-then-self-slope c =
    let r = c.requires in
    rw (
      step_more-is c.args.self.column c.args.slope.step r.column r.step,
      over_more-is c.args.self.over c.args.slope.rest c.args.slope.whole r.over r.rest r.whole,
    ) (sym (next-fewer c.args.self c.args.slope (omega (arith, ints, c.if-self-slope.true))))

pub returns : goal.returns
returns c =
    let r = c.requires in
    rw (step-is c.args.self.column c.args.slope.step r.column r.step, over-is c.args.self.over c.args.slope.rest r.over r.rest)
    (sym (next-same c.args.self c.args.slope (omega (arith, ints, c.if-self-slope.false))))

pub overflow_add-result : goal.overflow_add-result
overflow_add-result c = omega (arith, ints, c.requires.column, c.requires.step, c.requires.over, c.requires.rest, c.requires.whole)

pub overflow_sub-result : goal.overflow_sub-result
overflow_sub-result c = omega (arith, ints, c.requires.column, c.requires.step, c.requires.over, c.requires.rest, c.requires.whole)

pub overflow_add-result-2 : goal.overflow_add-result-2
overflow_add-result-2 c = omega (arith, ints, c.requires.column, c.requires.step, c.requires.over, c.requires.rest, c.requires.whole)

pub overflow_sub-result-2 : goal.overflow_sub-result-2
overflow_sub-result-2 c = omega (arith, ints, c.requires.column, c.requires.step, c.requires.over, c.requires.rest, c.requires.whole)

pub overflow_add-result-then-self-slope : goal.overflow_add-result-then-self-slope
overflow_add-result-then-self-slope c = omega (arith, ints, c.requires.column, c.requires.step, c.requires.over, c.requires.rest, c.requires.whole)

pub overflow_add-result-then-self-slope-2 : goal.overflow_add-result-then-self-slope-2
overflow_add-result-then-self-slope-2 c = omega (arith, ints, c.requires.column, c.requires.step, c.requires.over, c.requires.rest, c.requires.whole)
