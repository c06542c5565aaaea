use Rattle.std.proofs.Common.{◌≡◌, ◌∙◌, ap, false, true}
use Rattle.std.proofs.lemmas.Result.{IfOk-weaker}
use Rattle.clap.specs.Words.{Rule, rule_of}
use Rattle.clap.specs.declared.builder.arg.Arg.{Arg}
use Rattle.commandline.specs.Arguments.{script_rule}
use Rattle.commandline.proofs.Adding.{added, stays-local}
use Rattle.commandline.proofs.commands.run_command.Goals as goal

pub returns-clause-app : goal.returns-clause-app
returns-clause-app c =
    let script : rule_of c.help.result ≡ script_rule = ap rule_of c.help.ensures ∙ ap rule_of c.required-script.ensures ∙ ap (λ (r : Rule). record r { required = true }) c.new.ensures.rule in
    let local : c.help.result.global ≡ false = ap (λ (a : Arg). a.global) c.help.ensures ∙ ap (λ (a : Arg). a.global) c.required-script.ensures ∙ c.new.ensures.optional.1 in
    IfOk-weaker c.arg.result _ _ (λ r adds. added _ _ _ _ _ c.in_ok-subcommand.ensures.app script local adds) c.arg.ensures

pub returns-clause-local : goal.returns-clause-local
returns-clause-local c =
    let local : c.help.result.global ≡ false = ap (λ (a : Arg). a.global) c.help.ensures ∙ ap (λ (a : Arg). a.global) c.required-script.ensures ∙ c.new.ensures.optional.1 in
    IfOk-weaker c.arg.result _ _ (λ r adds. stays-local _ _ _ c.in_ok-subcommand.ensures.local local adds) c.arg.ensures
