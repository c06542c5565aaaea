use Rattle.httpedge.proofs.Decisions.{never-judged}
use Rattle.httpedge.proofs.verdict.judge_hopeless.Goals as goal

pub returns : goal.returns
returns c = never-judged c.args.bytes.now c.requires.headless c.requires.always
