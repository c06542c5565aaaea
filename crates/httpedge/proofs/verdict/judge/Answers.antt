use Rattle.httpedge.proofs.verdict.judge.Goals as goal

pub judge_headless-requires-clause-headless : goal.judge_headless-requires-clause-headless
judge_headless-requires-clause-headless c = c.requires.due c.if-is_due.false
