use Rattle.std.proofs.lemmas.Result.{IfOk-weaker}
use Rattle.commandline.specs.Arguments.{check_app, run_app, serve_app}
use Rattle.commandline.proofs.Adding.{joined}
use Rattle.commandline.proofs.commands.all_commands.Goals as goal

pub returns : goal.returns
returns c =
    let one = joined _ _ c.check_command.result _ check_app c.in_ok-none.ensures c.check_command.ensures.app c.check_command.ensures.local c.in_ok-one.ensures in
    let two = joined _ _ c.run_command.result _ run_app one c.run_command.ensures.app c.run_command.ensures.local c.in_ok-two.ensures in
    IfOk-weaker c.with_subcommand-3.result _ _ (λ r with. joined _ _ c.serve_command.result _ serve_app two c.serve_command.ensures.app c.serve_command.ensures.local with) c.with_subcommand-3.ensures
