-- How the command line (docs/SERVICE.md, "The program") is made of its subcommands.
use Rattle.std.specs.Prelude.{◌≡◌, Result, IsOkAnd, false}
use Rattle.clap.specs.Words.{app_of, with_subcommand}
use Rattle.clap.specs.declared.builder.command.Command.{Command}
use Rattle.clap.specs.declared.builder.command.Command.TheViews.{out-Command}

-- the program so far and one more subcommand, which was made and has no options that all share
abbrev pub IsWithSubcommand : {E : Type 0} → Command → Result Command E → Command → Type 0
IsWithSubcommand old subcommand new = IsOkAnd subcommand (λ f. (out-Command f).has_globals ≡ false → app_of new ≡ with_subcommand (app_of old) (app_of f).top)
