use Rattle.httpedge.proofs.Heads.{always-overflow}
use Rattle.httpedge.proofs.Decisions.{overflow-headless}
use Rattle.httpedge.proofs.verdict.judge_parsed.Goals as goal

pub judge_hopeless-requires-clause-headless : goal.judge_hopeless-requires-clause-headless
judge_hopeless-requires-clause-headless c = overflow-headless c.args.bytes.now c.in-Err.ensures.no_room

pub judge_hopeless-requires-clause-always : goal.judge_hopeless-requires-clause-always
judge_hopeless-requires-clause-always c = always-overflow c.args.bytes.now c.requires.some c.in-Err.ensures.no_room
