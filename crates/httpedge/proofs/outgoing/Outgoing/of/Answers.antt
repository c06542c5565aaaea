use Rattle.std.proofs.Common.{◌∙◌}
use Rattle.httpedge.proofs.Outgoings.{head-body}
use Rattle.httpedge.proofs.outgoing.Outgoing.of.Goals as goal

pub returns-in-Answered : goal.returns-in-Answered
returns-in-Answered c =
    let text = c.as_bytes-count.ensures.value ∙ c.format.ensures.text in
    rw (c.answer_head.ensures, c.in-Answered.is, c.mime_bytes.ensures.text, text, c.len.ensures) (head-body _ _ c.in-Answered.field-0.body c.args.closing)
