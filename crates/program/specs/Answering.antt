-- The effects of the program for its arguments on a host (docs/SERVICE.md, "The program").
use Rattle.std.specs.Prelude.{◌≡◌, ◌⊎◌, false, ℕ, List, Result, Ok, Err, codes}
use Rattle.std.specs.Io.KnownBytes.{Keeps}
use Rattle.clap.specs.Words.{subcommand_of, takes}
use Rattle.commandline.specs.Arguments.{app, IsCommand}
use Rattle.commandline.specs.declared.subcommand.Command.{Command}
use Rattle.console.specs.Console.{ConsoleState, IsReported}
use Rattle.console.specs.declared.failure.Failure.TheVariants.{ArgumentsRefused, NoMemory}
use Rattle.program.specs.Endings.{EndingValue, unserved}
use Rattle.program.specs.Explaining.{ExplainsEnd, explains_end}
use Rattle.program.specs.Performing.{HostView, Performs}
use Rattle.program.specs.declared.arguments.ArgumentsUnread.{ArgumentsUnread}
use Rattle.program.specs.declared.arguments.ArgumentsUnread.TheVariants.{NoText, NoMemory as UnreadNoMemory}

-- neither the input nor the output was touched
pub record IsUntouched (old new : ConsoleState) : Type 0 where
  pub input : new.input ≡ old.input
  pub output : new.output ≡ old.output

-- there was no memory for the arguments, and nothing was reported
pub record IsWithoutMemory {P L : Type 0} (ending : EndingValue P L) (old new : ConsoleState) : Type 0 where
  pub ends : ending ≡ unserved (Err NoMemory)
  pub untouched : IsUntouched old new
  pub errors : new.errors ≡ old.errors

-- the arguments were refused, and the command line doesn't take them; a message on that was reported
pub record IsRefused {P L : Type 0} (arguments : List (List ℕ)) (ending : EndingValue P L) (old new : ConsoleState) : Type 0 where
  pub ends : ending ≡ unserved (Err ArgumentsRefused)
  pub refused : takes app arguments ≡ false
  pub untouched : IsUntouched old new
  pub text : List ℕ
  pub reported : IsReported old.errors new.errors text

-- the arguments give a command, which was performed; how it ended was explained, where that is requested
pub record IsPerformed {P L : Type 0} (host : HostView P L) (arguments : List (List ℕ)) (ending : EndingValue P L) (old new : ConsoleState) : Type 0 where
  pub command : Command
  pub asked : IsCommand (subcommand_of app arguments) command
  pub middle : ConsoleState
  pub performs : Performs host command ending old middle
  pub input : new.input ≡ middle.input
  pub output : new.output ≡ middle.output
  pub explained : ExplainsEnd (explains_end command) ending.outcome middle.errors new.errors

-- an argument isn't text, which was reported
pub record IsNoText {P L : Type 0} (ending : EndingValue P L) (old new : ConsoleState) : Type 0 where
  pub ends : ending ≡ unserved (Err ArgumentsRefused)
  pub untouched : IsUntouched old new
  pub reported : IsReported old.errors new.errors (codes "error: an argument is not UTF-8\n")

-- the result for these arguments, or for arguments that can't be read
abbrev pub Answers : {P L : Type 0} → HostView P L → Result (List (List ℕ)) ArgumentsUnread → EndingValue P L → ConsoleState → ConsoleState → Type 0
Answers host (Ok arguments) ending old new =
    IsPerformed host arguments ending old new ⊎ IsRefused arguments ending old new ⊎ IsWithoutMemory ending old new
Answers host (Err NoText) ending old new = IsNoText ending old new
Answers host (Err UnreadNoMemory) ending old new = IsWithoutMemory ending old new
