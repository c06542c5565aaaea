use Rattle.std.proofs.Common.{All, map, take}
use Rattle.clap.specs.Words.{rows_of, found_of}
use Rattle.commandline.specs.Arguments.{IsInRange, option_of}
use Rattle.commandline.proofs.arguments.are_in_range.Given as goal

-- the options so far are in their ranges
abbrev pub invariant-loop-option : goal.invariant-loop-option
invariant-loop-option l = All (IsInRange (rows_of (found_of l.matches))) (map option_of (take l.option-index l.options))
