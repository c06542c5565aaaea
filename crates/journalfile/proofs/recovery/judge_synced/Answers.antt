use Rattle.journalfile.proofs.Judging.{judged_before}
use Rattle.journalfile.proofs.recovery.judge_synced.Goals as goal

pub returns-in-Ok-clause-judged : goal.returns-in-Ok-clause-judged
returns-in-Ok-clause-judged g c = judged_before c.args.name.now g.L.Log.reliable (g.L.Log.content c.sync.new.self) (g.L.Log.content c.args.log.now) c.args.machine.now c.judge.new.machine c.judge.result c.in-Ok.ensures.content c.judge.ensures.judged
