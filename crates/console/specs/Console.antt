-- The three streams of the program, and their states after an outcome (docs/SERVICE.md, "The program").
use Rattle.std.specs.Prelude.{◌≡◌, ◌||◌, ℕ, ◌≤◌, Bool, true, false, List, length, take, Option, Result, Ok, Err}
use Rattle.std.specs.Io.KnownBytes.{Appends, Keeps}
use Rattle.console.specs.declared.failure.Failure.{Failure}
use Rattle.console.specs.declared.failure.Failure.TheVariants.{MapfileFault, FileFailed, ArgumentsRefused, InputFailed, OutputFailed, ListenFailed, SocketFailed, WatchFailed, JournalFault, JournalFailed, NoMemory}

-- how the program ends: the command was done, or why not
abbrev pub Outcome : Type 0
Outcome = Result (Unit {0}) Failure

-- the exit status: 0 where the command was done, else by the failure
abbrev pub status_of : Outcome → ℕ
status_of (Ok done) = 0
status_of (Err MapfileFault) = 1
status_of (Err FileFailed) = 1
status_of (Err ArgumentsRefused) = 2
status_of (Err InputFailed) = 3
status_of (Err OutputFailed) = 3
status_of (Err (ListenFailed port cause)) = 3
status_of (Err SocketFailed) = 3
status_of (Err WatchFailed) = 3
status_of (Err JournalFault) = 1
status_of (Err JournalFailed) = 3
status_of (Err NoMemory) = 4

-- an input: the rest of it, where that is known, and whether its reader has failed
pub record InputState : Type 0 where
  pub left : Option (List ℕ)
  pub failed : Bool

-- a writer: what it holds, where that is known, whether it has failed, and whether it was flushed since it last took a byte
pub record WriterState : Type 0 where
  pub held : Option (List ℕ)
  pub failed : Bool
  pub flushed : Bool

-- the three streams
pub record ConsoleState : Type 0 where
  pub input : InputState
  pub output : WriterState
  pub errors : WriterState

-- all was done
abbrev pub is_done : Outcome → Bool
is_done (Ok done) = true
is_done (Err failure) = false

-- the reader of the input failed
abbrev pub is_input_failed : Outcome → Bool
is_input_failed (Err InputFailed) = true
is_input_failed _ = false

-- the writer of the output failed
abbrev pub is_output_failed : Outcome → Bool
is_output_failed (Err OutputFailed) = true
is_output_failed _ = false

-- the input has failed where that is the outcome, or where it had failed before
abbrev pub LeavesInput : Outcome → InputState → InputState → Type 0
LeavesInput outcome old new = new.failed ≡ (is_input_failed outcome || old.failed)

-- the output has failed where that is the outcome, or where it had failed before; it is flushed where all was done
pub record LeavesOutput (outcome : Outcome) (old new : WriterState) : Type 0 where
  pub failed : new.failed ≡ (is_output_failed outcome || old.failed)
  pub flushed : is_done outcome ≡ true → new.flushed ≡ true

-- the states of the input and of the output after an outcome
pub record Leaves (outcome : Outcome) (old new : ConsoleState) : Type 0 where
  pub input : LeavesInput outcome old.input new.input
  pub output : LeavesOutput outcome old.output new.output

-- a line was reported to a writer: it got all of it and was flushed, or it failed and got a prefix of it
pub record IsReported (old new : WriterState) (line : List ℕ) : Type 0 where
  pub count : ℕ
  pub bytes : Appends old.held new.held (take count line)
  pub all : new.failed ≡ false → length line ≤ count
  pub flushed : new.failed ≡ false → new.flushed ≡ true

-- a writer got the first so many bytes of a line
abbrev pub HasPrefix : WriterState → WriterState → List ℕ → Type 0
HasPrefix old new line = (count : ℕ) × Appends old.held new.held (take count line)

-- the output got a line by the outcome: all of it; or a prefix of it, or all of it where the flush failed
abbrev pub GetsLine : Outcome → WriterState → WriterState → List ℕ → Type 0
GetsLine (Ok done) old new line = Appends old.held new.held line
GetsLine (Err OutputFailed) old new line = HasPrefix old new line
GetsLine (Err failure) old new line = ⊥

-- a line was written to the output and flushed, or its writer failed
pub record IsWritten (outcome : Outcome) (old new : WriterState) (line : List ℕ) : Type 0 where
  pub gets : GetsLine outcome old new line
  pub leaves : LeavesOutput outcome old new

-- the output was flushed, or its writer failed
pub record HasFlushed (outcome : Outcome) (old new : WriterState) : Type 0 where
  pub kept : Keeps old.held new.held
  pub only : (is_done outcome || is_output_failed outcome) ≡ true
  pub leaves : LeavesOutput outcome old new
