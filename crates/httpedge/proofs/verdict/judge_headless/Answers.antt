use Rattle.httpedge.proofs.Heads.{always-full}
use Rattle.httpedge.proofs.verdict.judge_headless.Goals as goal

pub judge_hopeless-requires-clause-always : goal.judge_hopeless-requires-clause-always
judge_hopeless-requires-clause-always c = always-full c.args.bytes.now c.if-bytes-eq-HEAD_BYTES.true c.requires.headless
