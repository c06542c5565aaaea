-- How a batch changes a state (docs/SERVICE.md, "Batches").
use Rattle.std.specs.Prelude.{◌≡◌, ℕ, ◌+◌, ◌-◌, ◌^◌, ◌==◌, true, false, nat_lt, if◌then◌else◌, List, [], ◌∷◌, length, Option, None, Some, Result, Ok, Err, IfSome, MatchResult, slice_get}
use Rattle.std.specs.Result.{result_ok}
use Rattle.csvpoints.specs.Source.{records_of}
use Rattle.csvpoints.specs.Table.{table_of}
use Rattle.csvpoints.specs.declared.fault.CsvFault.{CsvFault}
use Rattle.csvpoints.specs.declared.table.TableFields.{TableFields}
use Rattle.layers.specs.Change.{append_at, clear, found_points, switch}
use Rattle.layers.specs.declared.fault.Refusal.{Refusal}
use Rattle.mapdefs.specs.declared.layer.LayerFields.{LayerFields}
use Rattle.mapdefs.specs.declared.limits.TheConstants.{MAX_FEATURES}
use Rattle.mapdefs.specs.declared.map.MapFields.{MapFields}
use Rattle.batches.specs.Command.{Reading, reading_of}
use Rattle.batches.specs.declared.command.Command.{Command}
use Rattle.batches.specs.declared.command.Command.TheVariants.{On, Off, Clear, Append}
use Rattle.batches.specs.declared.command.CommandFault.{CommandFault}
use Rattle.batches.specs.declared.fault.CommandError.{CommandError}
use Rattle.batches.specs.declared.fault.CommandError.TheVariants as command_error
use Rattle.batches.specs.declared.fault.BatchError.{BatchError}
use Rattle.batches.specs.declared.fault.BatchError.TheVariants as batch_error
use Rattle.batches.specs.declared.fault.BatchKind.{BatchKind}
use Rattle.batches.specs.declared.fault.BatchKind.TheVariants as kind
use Rattle.batches.specs.declared.fault.BatchFault.{BatchFault}
use Rattle.batches.specs.declared.fault.TheConstants.{MAX_BATCH}
use Rattle.mapdefs.specs.Outcome.{and_then}

-- a change, whose refusal is a kind of fault of a batch
abbrev pub refusal_fault : {A : Type 0} → Result A Refusal → Result A BatchKind
refusal_fault (Ok a) = Ok a
refusal_fault (Err refusal) = Err (kind.Refused refusal)

-- a table, whose fault is one, too
abbrev pub csv_fault : Result TableFields CsvFault → Result TableFields BatchKind
csv_fault (Ok table) = Ok table
csv_fault (Err fault) = Err (kind.Csv fault)

-- how one command changes a map, or why it fails: a table is read by the columns that its layer names
abbrev pub applied : Command → MapFields → Result MapFields BatchKind
applied (On name) m = refusal_fault (switch name true m)
applied (Off name) m = refusal_fault (switch name false m)
applied (Clear name) m = refusal_fault (clear name m)
applied (Append name bytes) m =
    and_then (refusal_fault (found_points name m)) (λ f.
    and_then (csv_fault (table_of f.1.csv_x f.1.csv_y MAX_FEATURES (records_of bytes))) (λ table. refusal_fault (append_at f.0 table m)))

-- what is wrong with the command at an index
abbrev pub at_command : {A : Type 0} → ℕ → Result A BatchKind → Result A BatchFault
at_command index (Ok a) = Ok a
at_command index (Err k) = Err (record { index = index; kind = k })

-- the map after some commands, of which the first has that index, or the first fault
abbrev pub after : ℕ → List Command → MapFields → Result MapFields BatchFault
after index [] m = Ok m
after index (command ∷ commands) m = and_then (at_command index (applied command m)) (after (index + 1) commands)

-- the fault of a command that can't be read, after the commands that can
abbrev pub unread : ℕ → Option CommandFault → MapFields → Result MapFields BatchFault
unread index None m = Ok m
unread index (Some fault) m = Err (record { index = index; kind = kind.Unread fault })

-- the map after all commands of a reading, of which the first has that index, or the first fault
abbrev pub after_reading : ℕ → Reading → MapFields → Result MapFields BatchFault
after_reading index reading m = and_then (after index reading.commands m) (unread (index + length reading.commands) reading.wrong)

-- the map after a batch that isn't too long, or the first fault
abbrev pub batch : List ℕ → MapFields → Result MapFields BatchFault
batch bytes m = after_reading 1 (reading_of bytes) m

-- a served map, and how many batches were published
pub record State : Type 0 where
  pub map : MapFields
  pub sequence : ℕ

-- the state after a batch, or the first fault
abbrev pub batched : List ℕ → State → Result State BatchFault
batched bytes s =
    if nat_lt MAX_BATCH (length bytes) then Err (record { index = 0; kind = kind.TooLong })
    else if s.sequence == 2 ^ 64 - 1 then Err (record { index = 0; kind = kind.SequenceEnd })
    else and_then (batch bytes s.map) (λ m. Ok (record { map = m; sequence = s.sequence + 1 }))

-- the state after a batch, if it has no fault
abbrev pub accepted : State → List ℕ → Option State
accepted state bytes = result_ok (batched bytes state)

-- the law that an empty batch leaves the map, and is counted
abbrev pub EmptyBatchCounts : Type 0
EmptyBatchCounts = (s : State) → (s.sequence == 2 ^ 64 - 1) ≡ false → batched [] s ≡ Ok (record { map = s.map; sequence = s.sequence + 1 })

-- the error is the fault, or refused memory
abbrev pub IsErrorOf : {A : Type 0} → Result A BatchKind → CommandError → Type 0
IsErrorOf r (command_error.Fault k) = r ≡ Err k
IsErrorOf r command_error.NoMemory = Unit {0}

abbrev pub IsBatchErrorOf : {A : Type 0} → Result A BatchFault → BatchError → Type 0
IsBatchErrorOf r (batch_error.Fault f) = r ≡ Err f
IsBatchErrorOf r batch_error.NoMemory = Unit {0}

-- the table of some bytes by the columns that the layer at an index names, or what is wrong with them
abbrev pub IsTableAt : MapFields → ℕ → List ℕ → Result TableFields CommandError → Type 0
IsTableAt m index bytes result = IfSome (slice_get m.layers index) (λ (layer : LayerFields).
    MatchResult result
    (λ table. csv_fault (table_of layer.csv_x layer.csv_y MAX_FEATURES (records_of bytes)) ≡ Ok table)
    (IsErrorOf (csv_fault (table_of layer.csv_x layer.csv_y MAX_FEATURES (records_of bytes)))))

-- the fault of the batch where the command at an index has an error
abbrev pub at_index : ℕ → CommandError → BatchError
at_index index (command_error.Fault k) = batch_error.Fault (record { index = index; kind = k })
at_index index command_error.NoMemory = batch_error.NoMemory
