-- How a subcommand ends.
use Rattle.std.proofs.Common.{◌≡◌, ◌||◌, ◌⊎◌, inr, refl, ℕ, true, false, Bool, List, Option, Ok, Err}
use Rattle.std.specs.Io.KnownBytes.{Keeps}
use Rattle.std.proofs.KnownBytes.{Keeps-refl}
use Rattle.console.specs.Console.{Outcome, ConsoleState, WriterState}
use Rattle.console.specs.declared.failure.Failure.{Failure}
use Rattle.console.specs.declared.failure.Failure.TheVariants.{MapfileFault, FileFailed, ArgumentsRefused, InputFailed, OutputFailed, ListenFailed, SocketFailed, WatchFailed, JournalFault, JournalFailed, NoMemory}
use Rattle.mapdefs.specs.declared.map.MapFields.{MapFields}
use Rattle.batches.specs.Batch.{State}
use Rattle.subcommands.specs.Folder.{Giving, ComesTo}
use Rattle.subcommands.specs.Mapfiles.{ChecksTo, HasReadFile, HasReadMap, IsUnread, IsUnreported, IsWarned, JobView, Readings, ReportsScript, ReportsWarnings, Rest, RunFiles, RunsTo, WritesSummary, is_file_failed}
use Rattle.subcommands.specs.Reports.{ReadFile}
use Rattle.subcommands.specs.Session.{HasRead, Ends, EndsOn, PlaysTo, opened}

-- the result of playing a script, by the outcome
pub served : (gives : Giving) (outcome : Outcome) (old new : ConsoleState) (mapfile script : List ℕ) (map : MapFields) →
    HasRead old.input.left new.input.left mapfile script → ComesTo gives mapfile (Ok map) → EndsOn map outcome script old.output.held new.output.held →
    Keeps old.errors.held new.errors.held → PlaysTo gives outcome old new
served gives (Ok done) old new mapfile script map read is_map ends kept =
    record { mapfile = mapfile; script = script; read = read; map = map; is_map = is_map; state = ends.0; ends = ends.1; errors = kept }
served gives (Err SocketFailed) old new mapfile script map read is_map ends kept = absurd ends.1
served gives (Err WatchFailed) old new mapfile script map read is_map ends kept = absurd ends.1
served gives (Err JournalFault) old new mapfile script map read is_map ends kept = absurd ends.1
served gives (Err JournalFailed) old new mapfile script map read is_map ends kept = absurd ends.1
served gives (Err (ListenFailed port cause)) old new mapfile script map read is_map ends kept = absurd ends.1
served gives (Err FileFailed) old new mapfile script map read is_map ends kept = absurd ends.1
served gives (Err ArgumentsRefused) old new mapfile script map read is_map ends kept = absurd ends.1
served gives (Err MapfileFault) old new mapfile script map read is_map ends kept = absurd ends.1
served gives (Err InputFailed) old new mapfile script map read is_map ends kept = absurd ends.1
served gives (Err OutputFailed) old new mapfile script map read is_map ends kept =
    record { mapfile = mapfile; script = script; read = read; map = map; is_map = is_map; state = ends.0; ends = ends.1; errors = kept }
served gives (Err NoMemory) old new mapfile script map read is_map ends kept = record { output = ends; errors = kept }

-- an empty report leaves the errors as they were
pub unreported : (errors : WriterState) → IsUnreported errors errors
unreported errors = record { held = Keeps-refl errors.held; failed = refl; flushed = refl }

-- the result of a script that was read after its mapfile, by the outcome
pub ran : (job : JobView) (outcome : Outcome) (files : RunFiles) (readings : Readings) (old new : ConsoleState) (map : MapFields) (bytes : List ℕ) →
    HasReadMap job.gives readings.mapfile.before readings.mapfile.after map → HasReadFile readings.script.before readings.script.after bytes →
    EndsOn map outcome bytes old.output.held new.output.held →
    ReportsWarnings job.explains files.mapfile.name map old.errors new.errors → RunsTo job outcome files readings old new
ran job (Ok done) files readings old new map bytes read read_script ends warnings =
    record { map = map; read = read; script = bytes; read_script = read_script; state = ends.0; ends = ends.1; warnings = warnings }
ran job (Err OutputFailed) files readings old new map bytes read read_script ends warnings =
    record { map = map; read = read; script = bytes; read_script = read_script; state = ends.0; ends = ends.1; warnings = warnings }
ran job (Err SocketFailed) files readings old new map bytes read read_script ends warnings = absurd ends.1
ran job (Err WatchFailed) files readings old new map bytes read read_script ends warnings = absurd ends.1
ran job (Err JournalFault) files readings old new map bytes read read_script ends warnings = absurd ends.1
ran job (Err JournalFailed) files readings old new map bytes read read_script ends warnings = absurd ends.1
ran job (Err (ListenFailed port cause)) files readings old new map bytes read read_script ends warnings = absurd ends.1
ran job (Err MapfileFault) files readings old new map bytes read read_script ends warnings = absurd ends.1
ran job (Err FileFailed) files readings old new map bytes read read_script ends warnings = absurd ends.1
ran job (Err ArgumentsRefused) files readings old new map bytes read read_script ends warnings = absurd ends.1
ran job (Err InputFailed) files readings old new map bytes read read_script ends warnings = absurd ends.1
ran job (Err NoMemory) files readings old new map bytes read read_script ends warnings =
    (ends, inr (record { map = map; read = read; warned = record { errors = new.errors; warnings = warnings }; unread = Keeps-refl new.errors.held }))

-- the result of a script that was not read after its mapfile
pub unscripted : (job : JobView) (failure : Failure) (files : RunFiles) (readings : Readings) (old new : ConsoleState) (map : MapFields) →
    HasReadMap job.gives readings.mapfile.before readings.mapfile.after map → (warned : IsWarned job.explains files.mapfile.name map old.errors) →
    IsUnread job.explains failure files.script warned.errors new.errors →
    Keeps old.output.held new.output.held → RunsTo job (Err failure) files readings old new
unscripted job FileFailed files readings old new map read warned unread kept =
    (kept, inr (record { map = map; read = read; warned = warned; unread = unread }))
unscripted job NoMemory files readings old new map read warned unread kept =
    (kept, inr (record { map = map; read = read; warned = warned; unread = unread }))
unscripted job SocketFailed files readings old new map read warned unread kept = absurd unread
unscripted job WatchFailed files readings old new map read warned unread kept = absurd unread
unscripted job JournalFault files readings old new map read warned unread kept = absurd unread
unscripted job JournalFailed files readings old new map read warned unread kept = absurd unread
unscripted job (ListenFailed port cause) files readings old new map read warned unread kept = absurd unread
unscripted job MapfileFault files readings old new map read warned unread kept = absurd unread
unscripted job ArgumentsRefused files readings old new map read warned unread kept = absurd unread
unscripted job InputFailed files readings old new map read warned unread kept = absurd unread
unscripted job OutputFailed files readings old new map read warned unread kept = absurd unread

-- nothing is reported where no warnings are requested
pub unwarned : (name : List ℕ) (map : MapFields) (old new : WriterState) → IsUnreported old new → ReportsWarnings false name map old new
unwarned name map old new kept = record { reported = inr kept; unasked = λ e. kept }

-- the result of a map whose line was not written
pub unsummed : (job : JobView) (failure : Failure) (file : ReadFile) (rest : Rest) (old new : ConsoleState) (map : MapFields) →
    HasReadMap job.gives rest.before rest.after map → WritesSummary (Err failure) map old.output.held new.output.held →
    IsUnreported old.errors new.errors → ChecksTo job (Err failure) file rest old new
unsummed job OutputFailed file rest old new map read sums kept =
    record { map = map; read = read; sums = sums; warnings = unwarned file.name map old.errors new.errors kept }
unsummed job MapfileFault file rest old new map read sums kept = absurd sums
unsummed job FileFailed file rest old new map read sums kept = absurd sums
unsummed job ArgumentsRefused file rest old new map read sums kept = absurd sums
unsummed job InputFailed file rest old new map read sums kept = absurd sums
unsummed job SocketFailed file rest old new map read sums kept = absurd sums
unsummed job WatchFailed file rest old new map read sums kept = absurd sums
unsummed job JournalFault file rest old new map read sums kept = absurd sums
unsummed job JournalFailed file rest old new map read sums kept = absurd sums
unsummed job (ListenFailed port cause) file rest old new map read sums kept = absurd sums
unsummed job NoMemory file rest old new map read sums kept = absurd sums

-- a script that was not read after its mapfile was reported by its name
pub script-reported : (other : Type 0) (explains : Bool) (failure : Failure) (name : List ℕ) (script : ReadFile) (old new : WriterState) (mapfile_before mapfile_after script_before script_after : Bool) (map : MapFields) →
    (warned : IsWarned explains name map old) → IsUnread explains failure script warned.errors new → mapfile_after ≡ mapfile_before →
    script_after ≡ (is_file_failed failure || script_before) → failure ≡ FileFailed →
    other ⊎ (ReportsScript explains name script old new × (script_after ≡ true) × (mapfile_after ≡ mapfile_before))
script-reported other explains failure name script old new mapfile_before mapfile_after script_before script_after map warned unread same flag e =
    inr (record { map = map; warned = warned; reported = rw e at unread }, (rw e at flag), same)

-- a script that was played from the machine as it begins with a map
pub ends-on : (map : MapFields) (outcome : Outcome) (script : List ℕ) (state : State) (before after : Option (List ℕ)) →
    Ends outcome (opened map) script state before after → EndsOn map outcome script before after
ends-on map (Ok done) script state before after ends = (state, ends)
ends-on map (Err OutputFailed) script state before after ends = (state, ends)
ends-on map (Err MapfileFault) script state before after ends = absurd ends
ends-on map (Err FileFailed) script state before after ends = absurd ends
ends-on map (Err ArgumentsRefused) script state before after ends = absurd ends
ends-on map (Err InputFailed) script state before after ends = absurd ends
ends-on map (Err SocketFailed) script state before after ends = absurd ends
ends-on map (Err WatchFailed) script state before after ends = absurd ends
ends-on map (Err JournalFault) script state before after ends = absurd ends
ends-on map (Err JournalFailed) script state before after ends = absurd ends
ends-on map (Err (ListenFailed port cause)) script state before after ends = absurd ends
ends-on map (Err NoMemory) script state before after ends = absurd ends
