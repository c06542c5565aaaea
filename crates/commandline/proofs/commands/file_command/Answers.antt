use Rattle.std.proofs.Common.{◌≡◌, ◌∙◌, ap, false, true}
use Rattle.std.proofs.lemmas.Result.{IfOk-weaker}
use Rattle.clap.specs.Simple.{app_of_fields}
use Rattle.clap.specs.Words.{Rule, app_of, new_app, rule_of, with_rule}
use Rattle.clap.specs.declared.builder.arg.Arg.{Arg}
use Rattle.clap.specs.declared.builder.command.Command.TheViews.{out-Command}
use Rattle.commandline.specs.Arguments.{file_rule}
use Rattle.commandline.proofs.Adding.{added, stays-local}
use Rattle.commandline.proofs.commands.file_command.Goals as goal

pub returns-clause-app : goal.returns-clause-app
returns-clause-app c =
    let file : rule_of c.help-file.result ≡ file_rule = ap rule_of c.help-file.ensures ∙ ap rule_of c.required.ensures ∙ ap (λ (r : Rule). record r { required = true }) c.new.ensures.rule in
    let file-local : c.help-file.result.global ≡ false = ap (λ (a : Arg). a.global) c.help-file.ensures ∙ ap (λ (a : Arg). a.global) c.required.ensures ∙ c.new.ensures.optional.1 in
    let subcommand : app_of c.in_ok-subcommand.subcommand ≡ with_rule (new_app c.args.name.now) file_rule =
    added _ _ _ _ _ (ap app_of_fields c.about.ensures ∙ c.new-2.ensures.app) file file-local c.in_ok-subcommand.ensures in
    IfOk-weaker c.arg-2.result _ _ (λ r adds. added _ _ _ _ _ subcommand c.flag.ensures.rule c.flag.ensures.local adds) c.arg-2.ensures

pub returns-clause-local : goal.returns-clause-local
returns-clause-local c =
    let file-local : c.help-file.result.global ≡ false = ap (λ (a : Arg). a.global) c.help-file.ensures ∙ ap (λ (a : Arg). a.global) c.required.ensures ∙ c.new.ensures.optional.1 in
    let subcommand : (out-Command c.in_ok-subcommand.subcommand).has_globals ≡ false =
    stays-local _ _ _ (ap (λ a. a.has_globals) c.about.ensures ∙ c.new-2.ensures.local) file-local c.in_ok-subcommand.ensures in
    IfOk-weaker c.arg-2.result _ _ (λ r adds. stays-local _ _ _ subcommand c.flag.ensures.local adds) c.arg-2.ensures
