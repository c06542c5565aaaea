-- A subcommand with one more argument.
use Rattle.std.proofs.Common.{◌≡◌, ◌∙◌, ap, ap₂, false, ◌||◌, Result, Ok, Err}
use Rattle.std.specs.Result.{IfOk}
use Rattle.clap.specs.Simple.{App, with_rule}
use Rattle.clap.specs.Words.{AddsArg, Rule, app_of, rule_of, with_subcommand}
use Rattle.clap.specs.declared.builder.arg.Arg.{Arg}
use Rattle.clap.specs.declared.builder.command.Command.{Command}
use Rattle.clap.specs.declared.builder.command.Command.TheViews.{out-Command}
use Rattle.commandline.specs.Subcommands.{IsWithSubcommand}

pub added : (old new : Command) (a : Arg) (line : App) (rule : Rule) → app_of old ≡ line → rule_of a ≡ rule → a.global ≡ false → AddsArg old a new
    → app_of new ≡ with_rule line rule
added old new a line rule is by local adds = adds.shape local ∙ ap₂ with_rule is by

pub stays-local : (old new : Command) (a : Arg) → (out-Command old).has_globals ≡ false → a.global ≡ false → AddsArg old a new → (out-Command new).has_globals ≡ false
stays-local old new a is local adds = adds.globals ∙ ap₂ ◌||◌ is local

-- a subcommand that was made is the one of its definition
pub joined : {E : Type 0} (old new : Command) (subcommand : Result Command E) (line made : App) → app_of old ≡ line → IfOk subcommand (λ f. app_of f ≡ made)
    → IfOk subcommand (λ f. (out-Command f).has_globals ≡ false) → IsWithSubcommand old subcommand new → app_of new ≡ with_subcommand line made.top
joined old new (Ok f) line made is by local with = with local ∙ ap₂ with_subcommand is (ap (λ (a : App). a.top) by)
joined old new (Err e) line made is by local with = absurd with
