use Rattle.batches.proofs.Cutting.{front-is}
use Rattle.batches.proofs.command.first_command.Goals as goal

pub returns-in-len1-up-clause-value : goal.returns-in-len1-up-clause-value
returns-in-len1-up-clause-value c =
    rw (front-is c.args.bytes.now c.split_at.result.0.now c.split_at.result.1.now c.without_cr.result.now c.line_of.result c.line_len.result
    c.line_len.ensures.index c.split_at.ensures.front c.split_at.ensures.back c.in-len1-up.len_at_least c.without_cr.ensures c.line_of.ensures)
    c.with_bytes.ensures.value
