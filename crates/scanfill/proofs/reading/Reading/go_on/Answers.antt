use Rattle.std.proofs.Common.{◌<◌, arith}
use Rattle.scanfill.proofs.Readings.{leads-on, leads-ended}
use Rattle.scanfill.proofs.reading.Reading.go_on.Goals as goal

pub returns-in_ok-push-in-Inside : goal.returns-in_ok-push-in-Inside
returns-in_ok-push-in-Inside c = λ test end within all reading.
    let some : c.args.columns.from < c.args.columns.to = omega (arith, c.if-from-to.false) in
    rw c.in_ok-push-in-Inside.ensures.ok
    (leads-ended test end c.in-Inside.start c.args.columns.from c.args.columns.to c.args.out.now some within (rw c.if-not-is_covered.true at all) (rw c.in-Inside.is at reading))

pub returns-in_default : goal.returns-in_default
returns-in_default c = λ test end within all reading.
    rw c.in-Outside.is
    (leads-on test end c.args.columns.from c.args.columns.to c.args.out.now c.requires (rw c.if-is_covered.false at all) (rw c.in-Outside.is at reading))
