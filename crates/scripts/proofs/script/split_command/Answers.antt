use Rattle.scripts.proofs.Commands.{front-is}
use Rattle.scripts.proofs.script.split_command.Goals as goal

pub returns-in-len1-up-clause-value : goal.returns-in-len1-up-clause-value
returns-in-len1-up-clause-value c =
    rw (front-is c.args.script.now c.split_at.result.0.now c.split_at.result.1.now c.line_len.result
    c.line_len.ensures.index c.split_at.ensures.front c.split_at.ensures.back c.in-len1-up.len_at_least)
    c.command_of.ensures.value
