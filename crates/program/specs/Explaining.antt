-- The message on an end that no other line explains (docs/SERVICE.md, "The program").
use Rattle.std.specs.Prelude.{◌≡◌, ℕ, Bool, true, false, List, ◌++◌, Option, None, Some, Ok, Err, codes}
use Rattle.std.specs.Fmt.{decimal}
use Rattle.commandline.specs.declared.subcommand.Command.{Command}
use Rattle.commandline.specs.declared.subcommand.Command.TheVariants.{Session, Check, Run, Serve}
use Rattle.console.specs.Console.{Outcome, ConsoleState, WriterState, IsReported}
use Rattle.console.specs.declared.failure.Failure.{Failure}
use Rattle.console.specs.declared.failure.Failure.TheVariants.{OutputFailed, ListenFailed, SocketFailed, WatchFailed, NoMemory}
use Rattle.console.specs.declared.failure.ListenCause.{ListenCause}
use Rattle.console.specs.declared.failure.ListenCause.TheVariants.{Taken, NotAllowed, Other}

-- a command explains how it ends
abbrev pub explains_end : Command → Bool
explains_end Session = false
explains_end (Check name explains) = explains
explains_end (Run name script explains) = explains
explains_end (Serve name explains service journal) = explains

-- the message why a port can't be listened on
unfoldable pub cause_message : ListenCause → List ℕ
cause_message Taken = codes " is taken\n"
cause_message NotAllowed = codes " may not be listened on\n"
cause_message Other = codes " can't be listened on\n"

-- the message on a failure of the output, a port, the input with whose end a service ends, or memory. Other failures were reported by a line of their
-- own; a session, which reads standard input, takes no option
unfoldable pub sentence_on : Failure → Option (List ℕ)
sentence_on OutputFailed = Some (codes "error: standard output can't be written\n")
sentence_on (ListenFailed port cause) = Some (codes "error: port " ++ (decimal port ++ (codes " of 127.0.0.1" ++ cause_message cause)))
sentence_on SocketFailed = Some (codes "error: a port gives no connections, or a thread can't be started\n")
sentence_on WatchFailed = Some (codes "error: standard input can't be read\n")
sentence_on NoMemory = Some (codes "error: out of memory\n")
sentence_on failure = None

-- a message was reported, if there is one
abbrev pub HasSaid : Option (List ℕ) → WriterState → WriterState → Type 0
HasSaid None old new = new ≡ old
HasSaid (Some sentence) old new = IsReported old new sentence

-- the message on an outcome was reported, where that is requested
abbrev pub ExplainsEnd : Bool → Outcome → WriterState → WriterState → Type 0
ExplainsEnd true (Err failure) old new = HasSaid (sentence_on failure) old new
ExplainsEnd explains outcome old new = new ≡ old
