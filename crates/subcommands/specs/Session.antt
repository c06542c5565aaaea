-- A session, from the bytes of the input to what its writers get (docs/SERVICE.md, "Sessions").
use Rattle.std.specs.Prelude.{ℕ, List, Option, Ok, Err, ◌⊎◌}
use Rattle.std.specs.Io.KnownBytes.{Keeps, Consumes, IsAtEnd}
use Rattle.console.specs.Console.{Outcome, ConsoleState, WriterState, IsReported}
use Rattle.console.specs.declared.failure.Failure.{Failure}
use Rattle.console.specs.declared.failure.Failure.TheVariants.{MapfileFault, InputFailed, OutputFailed, NoMemory}
use Rattle.mapdefs.specs.declared.map.MapFields.{MapFields}
use Rattle.batches.specs.Batch.{State}
use Rattle.mapwords.specs.declared.fault.Fault.{Fault}
use Rattle.mapwords.specs.Fault.{number_of}
use Rattle.subcommands.specs.Folder.{Giving, ComesTo}
use Rattle.subcommands.specs.Parts.{AreParts}
use Rattle.subcommands.specs.Reports.{mapfile_fault}
use Rattle.scripts.specs.Playing.{HasPlayed, HasPartlyPlayed}

-- all of the input was read up to its end, and these are its parts
pub record HasRead (before after : Option (List ℕ)) (mapfile script : List ℕ) : Type 0 where
  pub session : List ℕ
  pub bytes : Consumes before after session
  pub end : IsAtEnd after
  pub parts : AreParts session mapfile script

-- neither writer got anything
pub record IsSilent (old new : ConsoleState) : Type 0 where
  pub output : Keeps old.output.held new.output.held
  pub errors : Keeps old.errors.held new.errors.held

-- the machine as it begins with a map
abbrev pub opened : MapFields → State
opened map = record { map = map; sequence = 0 }

-- the bytes that the output got of a script that was played from a state to another, by the outcome. It got all that there were to write, or exactly
-- the first so many of them, or all of them where the flush failed
abbrev pub Ends : Outcome → State → List ℕ → State → Option (List ℕ) → Option (List ℕ) → Type 0
Ends (Ok done) old script new before after = HasPlayed old script new before after
Ends (Err OutputFailed) old script new before after =
    ((written : ℕ) × HasPartlyPlayed old script new before after written) ⊎ HasPlayed old script new before after
Ends (Err _) old script new before after = ⊥

-- the same on the machine as it begins with a map; where memory was refused for it, the output got nothing
abbrev pub EndsOn : MapFields → Outcome → List ℕ → Option (List ℕ) → Option (List ℕ) → Type 0
EndsOn map (Err NoMemory) script before after = Keeps before after
EndsOn map outcome script before after = (state : State) × Ends outcome (opened map) script state before after

-- the mapfile describes a map, and playing the script on it had this outcome
pub record IsServed (gives : Giving) (outcome : Outcome) (old new : ConsoleState) : Type 0 where
  pub mapfile : List ℕ
  pub script : List ℕ
  pub read : HasRead old.input.left new.input.left mapfile script
  pub map : MapFields
  pub is_map : ComesTo gives mapfile (Ok map)
  pub state : State
  pub ends : Ends outcome (opened map) script state old.output.held new.output.held
  pub errors : Keeps old.errors.held new.errors.held

-- the mapfile has a fault, which was reported
pub record HasReportedFault (gives : Giving) (mapfile : List ℕ) (old new : WriterState) : Type 0 where
  pub fault : Fault
  pub is_fault : ComesTo gives mapfile (Err fault)
  pub reported : IsReported old new (mapfile_fault fault.line (number_of fault.kind))

-- there is no map: the mapfile's fault was reported, or memory was refused and nothing was reported
abbrev pub IsWithoutMap : Giving → Failure → List ℕ → WriterState → WriterState → Type 0
IsWithoutMap gives MapfileFault mapfile old new = HasReportedFault gives mapfile old new
IsWithoutMap gives NoMemory mapfile old new = Keeps old.held new.held
IsWithoutMap gives _ mapfile old new = ⊥

-- the mapfile of a session has a fault, which was reported to the errors alone
pub record IsFaulty (gives : Giving) (old new : ConsoleState) : Type 0 where
  pub mapfile : List ℕ
  pub script : List ℕ
  pub read : HasRead old.input.left new.input.left mapfile script
  pub output : Keeps old.output.held new.output.held
  pub reported : HasReportedFault gives mapfile old.errors new.errors

-- the result of playing a session for the streams, by its outcome
abbrev pub PlaysTo : Giving → Outcome → ConsoleState → ConsoleState → Type 0
PlaysTo gives (Ok done) old new = IsServed gives (Ok done) old new
PlaysTo gives (Err MapfileFault) old new = IsFaulty gives old new
PlaysTo gives (Err InputFailed) old new = IsSilent old new
PlaysTo gives (Err OutputFailed) old new = IsServed gives (Err OutputFailed) old new
PlaysTo gives (Err NoMemory) old new = IsSilent old new
PlaysTo gives (Err _) old new = ⊥
