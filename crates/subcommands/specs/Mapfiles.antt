-- Checking a mapfile, and running a script on its map (docs/SERVICE.md, "The program").
use Rattle.std.specs.Prelude.{◌≡◌, ◌||◌, Bool, true, false, ℕ, List, ◌++◌, Option, None, Some, Result, Ok, Err, ◌⊎◌, codes}
use Rattle.std.specs.Fmt.{decimal}
use Rattle.std.specs.Io.KnownBytes.{Keeps, Appends, Consumes, IsAtEnd}
use Rattle.console.specs.Console.{Outcome, ConsoleState, InputState, WriterState, IsReported, is_input_failed, is_output_failed}
use Rattle.console.specs.declared.failure.Failure.{Failure}
use Rattle.console.specs.declared.failure.Failure.TheVariants.{MapfileFault, FileFailed, OutputFailed, NoMemory}
use Rattle.mapdefs.specs.declared.map.MapFields.{MapFields}
use Rattle.batches.specs.Batch.{State}
use Rattle.mapwords.specs.declared.fault.Fault.{Fault}
use Rattle.mapwords.specs.Fault.{number_of}
use Rattle.mapparse.specs.declared.files.FileBytes.{FileBytes}
use Rattle.mapwarnings.specs.Lines.{warning_lines}
use Rattle.subcommands.specs.Explained.{IsExplained}
use Rattle.subcommands.specs.Folder.{Giving, ComesTo}
use Rattle.subcommands.specs.Reports.{ReadFile, IsFileReported, mapfile_fault}
use Rattle.subcommands.specs.Session.{Ends, opened}
use Rattle.subcommands.specs.Summary.{summary_line, HasPartlySummed}

-- a job: what the folder of its mapfile gives, and whether there is a message on a fault or an unread file, and warnings on a map
pub record JobView : Type 1 where
  pub gives : Giving
  pub explains : Bool

-- the rest of a file, before and after
pub record Rest : Type 0 where
  pub before : Option (List ℕ)
  pub after : Option (List ℕ)

-- all of a file was read, up to its end
pub record HasReadFile (before after : Option (List ℕ)) (bytes : List ℕ) : Type 0 where
  pub consumed : Consumes before after bytes
  pub end : IsAtEnd after

-- the reader of a file failed
abbrev pub is_file_failed : Failure → Bool
is_file_failed FileFailed = true
is_file_failed _ = false

-- the reader of a file has failed where that is the outcome, or where it had failed before
abbrev pub LeavesFile : {X : Type 0} → Result X Failure → InputState → InputState → Type 0
LeavesFile (Ok x) old new = new.failed ≡ old.failed
LeavesFile (Err failure) old new = new.failed ≡ (is_file_failed failure || old.failed)

-- neither the reader of the input nor the writer of the output failed
pub record TouchesNeither (failure : Failure) : Type 0 where
  pub input : is_input_failed (Err failure) ≡ false
  pub output : is_output_failed (Err failure) ≡ false

-- a file was not read: that was reported, or memory was refused and nothing was reported
abbrev pub IsUnread : Bool → Failure → ReadFile → WriterState → WriterState → Type 0
IsUnread explains FileFailed file old new = IsFileReported explains file old new
IsUnread explains NoMemory file old new = Keeps old.held new.held
IsUnread explains _ file old new = ⊥

-- a mapfile was read, and it describes a map
pub record HasReadMap (gives : Giving) (before after : Option (List ℕ)) (map : MapFields) : Type 0 where
  pub mapfile : List ℕ
  pub read : HasReadFile before after mapfile
  pub is_map : ComesTo gives mapfile (Ok map)

-- it was read from these bytes, with these files
pub record HasReadMapfile (gives : Giving) (before after : Option (List ℕ)) (mapfile : List ℕ) (files : List FileBytes) (map : MapFields) : Type 0 where
  pub read : HasReadFile before after mapfile
  pub is_map : ComesTo gives mapfile (Ok map)
  pub uses : is_map.files ≡ files

-- the report on a fault: its line, and then, if there is one, the message on it. Before the message are the name of the mapfile and the fault's line
abbrev pub explained_fault : List ℕ → Fault → Option (List ℕ) → List ℕ
explained_fault name fault None = mapfile_fault fault.line (number_of fault.kind)
explained_fault name fault (Some message) =
    mapfile_fault fault.line (number_of fault.kind) ++ (name ++ (codes ":" ++ (decimal fault.line ++ (codes ": " ++ (message ++ codes "\n")))))

-- a mapfile was read, and its fault was reported with the message on it, if there is one
pub record HasExplainedFault (job : JobView) (name : List ℕ) (rest : Rest) (old new : WriterState) : Type 0 where
  pub mapfile : List ℕ
  pub read : HasReadFile rest.before rest.after mapfile
  pub fault : Fault
  pub message : Option (List ℕ)
  pub explained : IsExplained job.gives job.explains mapfile fault message
  pub reported : IsReported old new (explained_fault name fault message)

-- a mapfile gave no map: it has a fault, or was not read
abbrev pub GivesNoMap : JobView → Failure → ReadFile → Rest → WriterState → WriterState → Type 0
GivesNoMap job MapfileFault file rest old new = HasExplainedFault job file.name rest old new
GivesNoMap job failure file rest old new = IsUnread job.explains failure file old new

-- nothing was reported
pub record IsUnreported (old new : WriterState) : Type 0 where
  pub held : Keeps old.held new.held
  pub failed : new.failed ≡ old.failed
  pub flushed : new.flushed ≡ old.flushed

-- the warnings on the map of a mapfile are reported; or nothing is, because memory was refused for them, or because `explains` is false
pub record ReportsWarnings (explains : Bool) (name : List ℕ) (map : MapFields) (old new : WriterState) : Type 0 where
  pub reported : IsReported old new (warning_lines name map) ⊎ IsUnreported old new
  pub unasked : explains ≡ false → IsUnreported old new

-- the part of the line of a map that the output got, by the outcome. It got all of it, or exactly its first so many bytes, or all of them where the
-- flush failed
abbrev pub WritesSummary : Outcome → MapFields → Option (List ℕ) → Option (List ℕ) → Type 0
WritesSummary (Ok done) map before after = Appends before after (summary_line map)
WritesSummary (Err OutputFailed) map before after =
    ((written : ℕ) × HasPartlySummed map before after written) ⊎ Appends before after (summary_line map)
WritesSummary (Err _) map before after = ⊥

-- a mapfile describes a map, whose line was written with this outcome, and then the warnings on it were reported
pub record IsChecked (job : JobView) (outcome : Outcome) (name : List ℕ) (rest : Rest) (old new : ConsoleState) : Type 0 where
  pub map : MapFields
  pub read : HasReadMap job.gives rest.before rest.after map
  pub sums : WritesSummary outcome map old.output.held new.output.held
  pub warnings : ReportsWarnings job.explains name map old.errors new.errors

-- the result of checking a mapfile for the streams, by its outcome. Warnings are reported where the whole line of the map was written
abbrev pub ChecksTo : JobView → Outcome → ReadFile → Rest → ConsoleState → ConsoleState → Type 0
ChecksTo job (Ok done) file rest old new = IsChecked job (Ok done) file.name rest old new
ChecksTo job (Err OutputFailed) file rest old new = IsChecked (record job { explains = false }) (Err OutputFailed) file.name rest old new
ChecksTo job (Err failure) file rest old new =
    Keeps old.output.held new.output.held × GivesNoMap job failure file rest old.errors new.errors

-- the mapfile and the script of a run, as they are reported
pub record RunFiles : Type 1 where
  pub mapfile : ReadFile
  pub script : ReadFile

-- the bytes that a run reads: those of its mapfile, and those of its script
pub record Readings : Type 0 where
  pub mapfile : Rest
  pub script : Rest

-- a mapfile describes a map, the warnings on it were reported, and a script was played on it with this outcome
pub record IsRun (job : JobView) (outcome : Outcome) (name : List ℕ) (readings : Readings) (old new : ConsoleState) : Type 0 where
  pub map : MapFields
  pub read : HasReadMap job.gives readings.mapfile.before readings.mapfile.after map
  pub script : List ℕ
  pub read_script : HasReadFile readings.script.before readings.script.after script
  pub state : State
  pub ends : Ends outcome (opened map) script state old.output.held new.output.held
  pub warnings : ReportsWarnings job.explains name map old.errors new.errors

-- the errors got the warnings on a map, and are in that state then
pub record IsWarned (explains : Bool) (name : List ℕ) (map : MapFields) (old : WriterState) : Type 0 where
  pub errors : WriterState
  pub warnings : ReportsWarnings explains name map old errors

-- a mapfile describes a map, and the warnings on it were reported, but the script was not played: it was not read, or memory was refused
pub record IsWithoutScript (job : JobView) (failure : Failure) (files : RunFiles) (readings : Readings) (old new : WriterState) : Type 0 where
  pub map : MapFields
  pub read : HasReadMap job.gives readings.mapfile.before readings.mapfile.after map
  pub warned : IsWarned job.explains files.mapfile.name map old
  pub unread : IsUnread job.explains failure files.script warned.errors new

-- the result of running a script for the streams, by its outcome
abbrev pub RunsTo : JobView → Outcome → RunFiles → Readings → ConsoleState → ConsoleState → Type 0
RunsTo job (Ok done) files readings old new = IsRun job (Ok done) files.mapfile.name readings old new
RunsTo job (Err OutputFailed) files readings old new = IsRun job (Err OutputFailed) files.mapfile.name readings old new
RunsTo job (Err failure) files readings old new =
    Keeps old.output.held new.output.held
    × (GivesNoMap job failure files.mapfile readings.mapfile old.errors new.errors
    ⊎ IsWithoutScript job failure files readings old.errors new.errors)

-- the errors got the warnings on a map, and then a script that was not read
pub record ReportsScript (explains : Bool) (name : List ℕ) (script : ReadFile) (old new : WriterState) : Type 0 where
  pub map : MapFields
  pub warned : IsWarned explains name map old
  pub reported : IsFileReported explains script warned.errors new

-- the readers of a mapfile and of a script, before and after
pub record Readers : Type 0 where
  pub mapfile_before : InputState
  pub mapfile_after : InputState
  pub script_before : InputState
  pub script_after : InputState

-- a file that was not read was reported. If it is the mapfile, its reader has failed, and that of the script stayed as it was (`untouched`). If it is
-- the script, its reader has failed, and that of the mapfile has not
abbrev pub ReportsUnread : Bool → RunFiles → WriterState → WriterState → Readers → Type 0 → Type 0
ReportsUnread explains files old new readers untouched =
    (IsFileReported explains files.mapfile old new × (readers.mapfile_after.failed ≡ true) × untouched)
    ⊎ (ReportsScript explains files.mapfile.name files.script old new × (readers.script_after.failed ≡ true)
    × (readers.mapfile_after.failed ≡ readers.mapfile_before.failed))

-- neither the reader of the mapfile nor that of the script has failed since
pub record NoneFailed (readers : Readers) : Type 0 where
  pub mapfile : readers.mapfile_after.failed ≡ readers.mapfile_before.failed
  pub script : readers.script_after.failed ≡ readers.script_before.failed

-- the state of the two readers after an outcome: none has failed since, unless a file was not read
abbrev pub LeavesFiles : Outcome → Readers → Type 0
LeavesFiles (Ok done) readers = NoneFailed readers
LeavesFiles (Err failure) readers = is_file_failed failure ≡ false → NoneFailed readers
