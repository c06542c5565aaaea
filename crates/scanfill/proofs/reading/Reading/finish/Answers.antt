use Rattle.scanfill.proofs.Readings.{leads-all}
use Rattle.scanfill.proofs.reading.Reading.finish.Goals as goal

pub returns-in-Outside : goal.returns-in-Outside
returns-in-Outside c = λ test reading. leads-all test c.args.end c.args.out.now (rw c.in-Outside.is at reading)
