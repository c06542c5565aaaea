use Rattle.std.proofs.Common.{◌≡◌, map, fold, drop, false}
use Rattle.clap.specs.Words.{app_of}
use Rattle.clap.specs.declared.builder.command.Command.TheViews.{out-Command}
use Rattle.commandline.specs.Arguments.{option_of, with_option}
use Rattle.commandline.proofs.commands.with_options.Given as goal

-- the subcommand so far with the options left is the one with all of them
abbrev pub invariant-loop-option : goal.invariant-loop-option
invariant-loop-option l =
    (fold with_option (app_of l.subcommand) (map option_of (drop l.option-index l.options)) ≡ fold with_option (app_of l.fn.subcommand) (map option_of l.options))
    × ((out-Command l.subcommand).has_globals ≡ false)
