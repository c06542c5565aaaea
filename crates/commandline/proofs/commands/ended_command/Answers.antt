use Rattle.std.proofs.lemmas.Result.{IfOk-weaker}
use Rattle.commandline.proofs.Adding.{added, stays-local}
use Rattle.commandline.proofs.commands.ended_command.Goals as goal

pub returns-clause-app : goal.returns-clause-app
returns-clause-app c = IfOk-weaker c.arg.result _ _ (λ r adds. added _ _ _ _ _ c.in_ok-subcommand.ensures.app c.flag.ensures.rule c.flag.ensures.local adds) c.arg.ensures

pub returns-clause-local : goal.returns-clause-local
returns-clause-local c = IfOk-weaker c.arg.result _ _ (λ r adds. stays-local _ _ _ c.in_ok-subcommand.ensures.local c.flag.ensures.local adds) c.arg.ensures
