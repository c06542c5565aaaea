use Rattle.httpedge.proofs.Decisions.{body-judged, head-judged}
use Rattle.httpedge.proofs.verdict.judge_head.Goals as goal

pub returns-then-has_body : goal.returns-then-has_body
returns-then-has_body c =
    body-judged c.args.bytes.now c.args.fields.now c.split_at.result.0.now c.args.head c.requires.complete.0 c.has_body.result c.requires.complete.1 c.requires.room c.requires.limit c.requires.within.section.len_fits
    c.requires.within.path c.split_at.ensures.front c.has_body.ensures c.if-has_body.true

pub returns : goal.returns
returns c =
    head-judged c.args.bytes.now c.args.fields.now c.split_at.result.0.now c.args.head c.requires.complete.0 c.has_body.result c.ends.result c.decide.result c.requires.complete.1 c.requires.room c.requires.limit
    c.requires.within.section.len_fits c.requires.within.path c.split_at.ensures.front c.has_body.ensures c.if-has_body.false c.ends.ensures (rw (c.of.ensures, c.of-2.ensures) at c.decide.ensures)
