-- The effects of the program for a command on a host (docs/SERVICE.md, "The program").
use Rattle.std.specs.Prelude.{◌≡◌, ◌⊎◌, ◌<◌, ◌≤◌, ◌||◌, ◌==◌, ◌++◌, ℕ, Bool, MatchBool, MatchOption, MatchResult, true, List, [], Option, None, Some, IsSome, option_map, Err}
use Rattle.std.specs.Io.KnownBytes.{Keeps}
use Rattle.commandline.specs.declared.subcommand.Command.{Command}
use Rattle.commandline.specs.declared.subcommand.Service.{Service}
use Rattle.commandline.specs.declared.subcommand.Command.TheVariants.{Session, Check, Run, Serve}
use Rattle.console.specs.declared.failure.ListenCause.{ListenCause}
use Rattle.console.specs.Console.{Outcome, ConsoleState, WriterState, IsReported}
use Rattle.console.specs.declared.failure.Failure.{Failure}
use Rattle.console.specs.declared.failure.Failure.TheVariants.{JournalFailed, ListenFailed}
use Rattle.batches.specs.Batch.{State, accepted as accepted_by}
use Rattle.journalfile.specs.Compacting.{next_checkpoint}
use Rattle.keepers.specs.declared.cause.LogCause.{LogCause}
use Rattle.journalfile.specs.declared.writing.Journal.{Journal}
use Rattle.sharing.specs.Sharing.{after}
use Rattle.mapdefs.specs.declared.map.MapFields.{MapFields}
use Rattle.mapparse.specs.declared.files.FileBytes.{FileBytes}
use Rattle.program.specs.declared.host.Files.{Ghosts as Files}
use Rattle.network.specs.declared.port.Port.{Ghosts as Port}
use Rattle.program.specs.Journals.{JournalView, HasFailed, KeepsState, compacted_keeper, whole_keeper, checkpoint_of, IsOpened, IsUnopened, ReportsCut, ReportsEnd, failure_of, journal_fault, map_fingerprint}
use Rattle.program.specs.declared.keeping.JournalFault.{JournalFault}
use Rattle.subcommands.specs.Folder.{Giving, IsParent}
use Rattle.subcommands.specs.Mapfiles.{HasReadMapfile, GivesNoMap, ReportsWarnings, ChecksTo, RunsTo}
use Rattle.subcommands.specs.Session.{PlaysTo, opened}
use Rattle.subcommands.specs.Reports.{ReadFile}
use Rattle.subcommands.specs.declared.unread.UnreadCause.{UnreadCause}
use Rattle.program.specs.Endings.{EndingValue, unserved, unstarted, ended, ended_compacted}
use Rattle.keepers.specs.declared.keeps.Keeps.{Ghosts as Keeper}
use Rattle.service.specs.Announcing.{HasAnnounced}
use Rattle.service.specs.Failures.{is_resource_failure}
use Rattle.service.specs.Serving.{LosesNone, NamesCause, ServedValue, WereServed}
use Rattle.turns.specs.declared.transport.Transport.{Ghosts as Transport}
use Rattle.journalfile.specs.declared.checkpoint.CompactedJournal.{CompactedJournal}
use Rattle.program.specs.Hosts.{IsWithheld, gives_in}

-- the known properties of a host: the bytes of the file of a path, or why it can't be read, which ports it gives for a number, or why it gives none, the
-- addresses of ports, journals, and how the clients of a service are served
pub record HostView (P L : Type 0) : Type 1 where
  pub file : List ℕ → Option (List ℕ)
  pub unread_for : List ℕ → UnreadCause → Type 0
  pub listens : ℕ → P → Type 0
  pub refuses : ℕ → ListenCause → Type 0
  pub address : P → Option (List ℕ)
  pub journal : JournalView L
  pub serves : State → Service → Outcome → Type 0

-- those of a host, by the ports and logs that it gives, and what its files, ports, logs and transports say
abbrev pub host_view : {H F P L C T : Type 0} → Files H F → (H → ℕ → P → Type 0) → (H → ℕ → ListenCause → Type 0) → (H → JournalView L) → Port P C → Transport T → Type 0 → H → HostView P L
host_view files listens refuses journals port transport Poller h = record {
  file = files.file h;
  unread_for = λ path. IsWithheld (files.withholds h path);
  listens = listens h;
  refuses = refuses h;
  address = port.address;
  journal = journals h;
  serves = WereServed Poller transport;
}

-- a machine that is to be served as it begins, the keeper of its batches, and the options
pub record Begun (K : Type 0) : Type 0 where
  pub machine : State
  pub keeper : K
  pub service : Service

-- a machine was served as it begins, at the two ports that were listened on. The addresses of the ports were written once, that of clients first. The
-- machine accepts all batches that were accepted, published or held, one after the other. Unless it ended because the keeper failed, the keeper at the
-- end keeps the batches of the one at the beginning, and then those, in order. Whatever a crash at any moment leaves stands for the batches of the one at
-- the beginning, and some that are accepted after them. Its workers answered clients as readers of this map
pub record IsServed {P L K : Type 0} (host : HostView P L) (known : Keeper K) (begun : Begun K) (served : ServedValue P K) (old new : WriterState) : Type 0 where
  pub began : served ≡ record served { machine = begun.machine; keeper = begun.keeper; service = begun.service }
  pub listens : host.listens begun.service.port served.clients
  pub listens_too : host.listens begun.service.admin_port served.administration
  pub took : IsSome (after accepted_by begun.machine served.accepted)
  pub kept : (served.outcome ≡ Err JournalFailed → ⊥) → (batches : List (List ℕ)) → known.keeps begun.keeper batches → known.keeps served.last (batches ++ served.accepted)
  pub crash : LosesNone known begun.machine begun.keeper served.last
  pub failed : NamesCause known.fails served.outcome served.cause
  pub answered : host.serves begun.machine begun.service served.outcome
  pub announced : HasAnnounced (host.address served.clients) (host.address served.administration) served.outcome old new

-- a kind of keepers: what is known of them, and how a program ends that served with one
pub record Keeping (P L K : Type 0) : Type 1 where
  pub known : Keeper K
  pub ended : ServedValue P K → EndingValue P L

-- a journal, or none
abbrev pub by_journal : {P L : Type 0} → HostView P L → Keeping P L (Option (Journal L))
by_journal host = record { known = whole_keeper host.journal; ended = ended }

-- a journal that is compacted
abbrev pub by_compacted : {P L : Type 0} → HostView P L → Keeping P L (CompactedJournal L)
by_compacted host = record { known = compacted_keeper host.journal; ended = ended_compacted }

-- nothing was served
abbrev pub ServesNothing : {P L : Type 0} → EndingValue P L → Type 0
ServesNothing ending = ending ≡ unserved ending.outcome

-- why nothing was served: a port can't be listened on, one of these for its cause; or one gives no connections, or memory was refused
abbrev pub NamesPort : (ℕ → ListenCause → Type 0) → Failure → Type 0
NamesPort these failure =
    (is_resource_failure failure ≡ true) ⊎ ((port : ℕ) × (cause : ListenCause) × (failure ≡ ListenFailed port cause) × these port cause)

-- the port is one of the two that were requested, which the host refused for that cause
abbrev pub NamesItsPort : (ℕ → ListenCause → Type 0) → Service → Failure → Type 0
NamesItsPort refuses service failure = NamesPort (λ port cause. ((port ≡ service.port) ⊎ (port ≡ service.admin_port)) × refuses port cause) failure

-- a machine was served; or a port of it couldn't be listened on or gave no connections, or memory was refused before, and nothing was written
abbrev pub ServesMachine : {P L K : Type 0} → HostView P L → (HostView P L → Keeping P L K) → Begun K → EndingValue P L → WriterState → WriterState → Type 0
ServesMachine {P} {L} {K} host keeping begun ending old new =
    (ServesNothing ending × MatchResult ending.outcome (λ _. ⊥) (NamesItsPort host.refuses begun.service) × (new ≡ old))
    ⊎ ((served : ServedValue P K) × (ending ≡ (keeping host).ended served) × IsServed host (keeping host).known begun served old new)

-- a journal before a service, and as it begins: before it is due, it is as it was. Else it is due at twice its bytes, and has the batches that it had, or
-- fewer that lead to the same state
pub record IsBegun {L : Type 0} (view : JournalView L) (old new : CompactedJournal L) : Type 0 where
  pub early : old.journal.length < old.checkpoint.due → new ≡ old
  pub next : old.checkpoint.due ≤ old.journal.length → new.checkpoint ≡ next_checkpoint old.checkpoint new.journal.length
  pub has : (batches : List (List ℕ)) → KeepsState view old batches → KeepsState view new batches

-- a machine was served with its journal, which was compacted before, where it was due; or a call of the journal's log failed at that
abbrev pub ServesCompacted : {P L : Type 0} → HostView P L → Begun (CompactedJournal L) → EndingValue P L → WriterState → WriterState → Type 0
ServesCompacted {P} {L} host begun ending old new =
    ((cause : LogCause) × HasFailed host.journal cause × (ending ≡ unstarted cause) × (new ≡ old))
    ⊎ ((keeper : CompactedJournal L) × IsBegun host.journal begun.keeper keeper
    × ServesMachine host by_compacted (record { machine = begun.machine; keeper = keeper; service = begun.service }) ending old new)

-- a machine was served with its journal, which is compacted where the options say so; that it is due and isn't compacted is reported, where it is to be told
abbrev pub ServesJournal : {P L : Type 0} → HostView P L → Bool → Begun (Journal L) → EndingValue P L → WriterState → WriterState → Type 0
ServesJournal host told begun ending old new = MatchBool (begun.service.checkpoint == 0)
    (ServesMachine host by_journal (record { machine = begun.machine; keeper = Some begun.keeper; service = begun.service }) ending old new)
    (ServesCompacted host (record { machine = begun.machine; keeper = record { journal = begun.keeper; checkpoint = checkpoint_of begun.service.checkpoint; is_reported = told }; service = begun.service }) ending old new)

-- the output before and after, and the errors before and after
pub record Written : Type 0 where
  pub output : WriterState
  pub later_output : WriterState
  pub errors : WriterState
  pub later_errors : WriterState

-- what is requested of a service: messages on faults and warnings, the path of its journal, or none, and its options
pub record Requested : Type 0 where
  pub explains : Bool
  pub journal : Option (List ℕ)
  pub service : Service

-- a map, and the fingerprint of its mapfile and of the files that it names
pub record FingerprintedMap : Type 0 where
  pub map : MapFields
  pub fingerprint : List ℕ

-- a map was served in the state after the batches of its journal, which kept all that followed, or, where it is compacted, fewer that lead to the same
-- state. That a torn tail was cut off is reported, with `--explain` or `--log`; where the journal failed, that was reported
pub record IsJournalServed {P L : Type 0} (host : HostView P L) (requested : Requested) (path : List ℕ) (read : FingerprintedMap) (ending : EndingValue P L) (written : Written) : Type 0 where
  pub machine : State
  pub journal : Journal L
  pub cut : ℕ
  pub is_opened : IsOpened host.journal path read.fingerprint (opened read.map) machine journal cut
  pub serves : ServesJournal host (requested.explains || requested.service.logs) (record { machine = machine; keeper = journal; service = requested.service }) ending written.output written.later_output
  pub between : WriterState
  pub told : ReportsCut (requested.explains || requested.service.logs) path cut written.errors between
  pub reported : ReportsEnd path ending.outcome ending.cause between written.later_errors

-- nothing was served, since the journal wasn't opened, which was reported
pub record IsWithoutJournal {P L : Type 0} (host : HostView P L) (path : List ℕ) (explains : Bool) (read : FingerprintedMap) (ending : EndingValue P L) (written : Written) : Type 0 where
  pub why : JournalFault
  pub is_unopened : IsUnopened host.journal path read.fingerprint (opened read.map) why
  pub ends : ending ≡ unserved (Err (failure_of why))
  pub output : written.later_output ≡ written.output
  pub reported : IsReported written.errors written.later_errors (journal_fault path explains why)

-- a map was served: as it begins, or, with the journal of a path, after its batches
abbrev pub ServesMap : {P L : Type 0} → HostView P L → Requested → FingerprintedMap → EndingValue P L → Written → Type 0
ServesMap host requested read ending written = MatchOption requested.journal
    (ServesMachine host by_journal (record { machine = opened read.map; keeper = None; service = requested.service }) ending written.output written.later_output
    × (written.later_errors ≡ written.errors))
    (λ path. IsWithoutJournal host path requested.explains read ending written ⊎ IsJournalServed host requested path read ending written)

-- a mapfile that is read: its name and the causes for which it may not be read, the files that it may name, and the rest of its own before and after
pub record MapfileReading : Type 1 where
  pub file : ReadFile
  pub gives : Giving
  pub before : Option (List ℕ)
  pub after : Option (List ℕ)

-- the warnings on the map of a mapfile were reported, where `explains` says so, and the map was served
pub record IsMapServed {P L : Type 0} (host : HostView P L) (requested : Requested) (reading : MapfileReading) (ending : EndingValue P L) (old new : ConsoleState) : Type 0 where
  pub map : MapFields
  pub mapfile : List ℕ
  pub files : List FileBytes
  pub read : HasReadMapfile reading.gives reading.before reading.after mapfile files map
  pub errors : WriterState
  pub warnings : ReportsWarnings requested.explains reading.file.name map old.errors errors
  pub serves_map : ServesMap host requested (record { map = map; fingerprint = map_fingerprint mapfile files }) ending
      (record { output = old.output; later_output = new.output; errors = errors; later_errors = new.errors })

-- no map was served, since the mapfile gave none
pub record IsWithoutMap {P L : Type 0} (explains : Bool) (reading : MapfileReading) (ending : EndingValue P L) (old new : ConsoleState) : Type 0 where
  pub failure : Failure
  pub ends : ending.outcome ≡ Err failure
  pub output : Keeps old.output.held new.output.held
  pub without : GivesNoMap (record { gives = reading.gives; explains = explains }) failure reading.file
      (record { before = reading.before; after = reading.after }) old.errors new.errors
  pub nothing : ServesNothing ending

-- the result of serving a mapfile
abbrev pub ServesTo : {P L : Type 0} → HostView P L → Requested → MapfileReading → EndingValue P L → ConsoleState → ConsoleState → Type 0
ServesTo host requested reading ending old new = IsWithoutMap requested.explains reading ending old new ⊎ IsMapServed host requested reading ending old new

-- the rest of a file after a part of it was read
abbrev pub Left : Type 0
Left = Option (List ℕ)

-- a file of a host that is read by its path
abbrev pub file_of : {P L : Type 0} → HostView P L → List ℕ → ReadFile
file_of host path = record { name = path; unread_for = host.unread_for path }

-- the result of checking the mapfile of a path
abbrev pub PerformsCheck : {P L : Type 0} → HostView P L → List ℕ → Bool → Outcome → ConsoleState → ConsoleState → Type 0
PerformsCheck host name explains outcome old new =
    (parent : List ℕ) × IsParent name parent × (after : Left)
    × ChecksTo (record { gives = gives_in host.file parent; explains = explains }) outcome (file_of host name)
    (record { before = host.file name; after = after }) old new

-- the paths of a mapfile and of a script
pub record RunPaths : Type 0 where
  pub mapfile : List ℕ
  pub script : List ℕ

-- the result of playing a script on the map of a mapfile, both by their paths
abbrev pub PerformsRun : {P L : Type 0} → HostView P L → RunPaths → Bool → Outcome → ConsoleState → ConsoleState → Type 0
PerformsRun host paths explains outcome old new =
    (parent : List ℕ) × IsParent paths.mapfile parent × (after : Left) × (script_after : Left)
    × RunsTo (record { gives = gives_in host.file parent; explains = explains }) outcome
    (record { mapfile = file_of host paths.mapfile; script = file_of host paths.script })
    (record {
      mapfile = record { before = host.file paths.mapfile; after = after };
      script = record { before = host.file paths.script; after = script_after };
    }) old new

-- the result of serving the map of the mapfile of a path
abbrev pub PerformsServe : {P L : Type 0} → HostView P L → List ℕ → Requested → EndingValue P L → ConsoleState → ConsoleState → Type 0
PerformsServe host name requested ending old new =
    (parent : List ℕ) × IsParent name parent × (after : Left)
    × ServesTo host requested (record { file = file_of host name; gives = gives_in host.file parent; before = host.file name; after = after }) ending old new

-- the result of performing a command, by its end. The files that a mapfile names are those of its folder; a session's are those of the current one
abbrev pub Performs : {P L : Type 0} → HostView P L → Command → EndingValue P L → ConsoleState → ConsoleState → Type 0
Performs host Session ending old new = PlaysTo (gives_in host.file []) ending.outcome old new × ServesNothing ending
Performs host (Check name explains) ending old new = PerformsCheck host name.now explains ending.outcome old new × ServesNothing ending
Performs host (Run name script explains) ending old new =
    PerformsRun host (record { mapfile = name.now; script = script.now }) explains ending.outcome old new × ServesNothing ending
Performs host (Serve name explains service journal) ending old new =
    PerformsServe host name.now (record { explains = explains; journal = option_map (λ text. text.now) journal; service = service }) ending old new
