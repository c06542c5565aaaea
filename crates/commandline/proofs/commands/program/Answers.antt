use Rattle.std.proofs.Common.{◌∙◌, ap, true}
use Rattle.clap.specs.Simple.{app_of_fields}
use Rattle.clap.specs.Words.{App}
use Rattle.commandline.proofs.commands.program.Goals as goal

pub returns : goal.returns
returns c =
    ap app_of_fields c.no_binary_name.ensures
    ∙ ap (λ (a : App). record { top = record a.top { no_binary_name = true }; subs = a.subs }) (ap app_of_fields c.version.ensures
    ∙ ap (λ (a : App). record { top = record a.top { has_version = true }; subs = a.subs }) (ap app_of_fields c.about.ensures ∙ ap app_of_fields c.in_ok-program.ensures.0 ∙ c.new.ensures.app))
