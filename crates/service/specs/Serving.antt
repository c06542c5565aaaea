-- What a service was (docs/SERVICE.md, "The program").
use Rattle.std.specs.List.{All}
use Rattle.std.specs.Prelude.{◌≡◌, ℕ, ◌-◌, ◌+◌, ◌≤◌, ◌^◌, min, List, [], ◌++◌, length, Option, None, Some, Ok, Err, IfSome, IsSome}
use Rattle.batches.specs.Batch.{State, accepted as accepted_by}
use Rattle.sharing.specs.Sharing.{after}
use Rattle.commandline.specs.declared.subcommand.Service.{Service}
use Rattle.console.specs.Console.{Outcome}
use Rattle.console.specs.declared.failure.Failure.TheVariants.{JournalFailed}
use Rattle.eventloop.specs.Rounds.{HasBeen}
use Rattle.eventloop.specs.declared.worker.Worker.{Worker}
use Rattle.keepers.specs.Crashes.{LeavesOnly}
use Rattle.keepers.specs.declared.cause.LogCause.{LogCause}
use Rattle.keepers.specs.declared.keeps.Keeps.{Ghosts as Keeps}
use Rattle.administration.specs.Keeping.{IsCause}
use Rattle.mapshare.specs.Answerer.{reader_answers}
use Rattle.mapshare.specs.Reader.{ReaderValue}
use Rattle.network.specs.Ports.{PortEvent, count_opened}
use Rattle.network.specs.Times.{IsTimed}
use Rattle.network.specs.declared.ports.Ports.{Ports}
use Rattle.turns.specs.Table.{timeouts_of as times_of}
use Rattle.turns.specs.declared.transport.Transport.{Ghosts as Transport}

-- the workers of a service once they have ended, as many as its options say: from none on each answered its connections in rounds, as a reader of the
-- map that was opened, within the times of the options, and has none
pub record HaveServed {T P : Type 0} (opening : State) (known : Transport T) (service : Service) (workers : List (Worker ReaderValue T P)) : Type 0 where
  pub count : length workers ≡ service.workers
  pub answered : All (HasBeen (reader_answers opening) known) workers
  pub timed : All (λ worker. IsTimed service (times_of worker.table)) workers

-- clients were served up to this outcome: where it is a good one, by all workers of the service; else maybe by none
pub record WereServed {T : Type 0} (P : Type 0) (known : Transport T) (opening : State) (service : Service) (outcome : Outcome) : Type 0 where
  pub workers : Option (List (Worker ReaderValue T P))
  pub well : outcome ≡ Ok tt → IsSome workers
  pub served : IfSome workers (HaveServed opening known service)

-- a number as it is counted, where it has 8 bytes
abbrev pub capped : ℕ → ℕ
capped n = min n (2 ^ 64 - 1)

-- of connections that came so many were handed over to workers: all, but for one at most, with which the thread was woken to stop
abbrev pub AreHandedOver : ℕ → List PortEvent → ℕ → Type 0
AreHandedOver before events count = (woken : ℕ) × (woken ≤ 1) × (capped count ≡ capped (before + (count_opened events - woken)))

-- a service: the machine whose map it served and the keeper of its batches, as they began, the ports of clients and of administration, its options,
-- how it ended, and why its keeper failed, if it did; then the keeper of batches, and all batches that its administrator accepted, published or held, in order
pub record ServedValue (P K : Type 0) : Type 0 where
  pub machine : State
  pub keeper : K
  pub clients : P
  pub administration : P
  pub service : Service
  pub outcome : Outcome
  pub cause : Option LogCause
  pub last : K
  pub accepted : List (List ℕ)

-- a service that is about to begin, which ends well so far
abbrev pub begun : {P K W Q I : Type 0} → State → K → Ports P W Q I → ServedValue P K
begun machine keeper ports = record {
  machine = machine;
  keeper = keeper;
  clients = ports.clients.port;
  administration = ports.administration.port;
  service = ports.service;
  outcome = Ok tt;
  cause = None;
  last = keeper;
  accepted = [];
}

-- a service served this machine, with this keeper, at these ports of clients and of administration, with these options
abbrev pub IsServiceOf : {P K : Type 0} → State → K → P → P → Service → ServedValue P K → Type 0
IsServiceOf machine keeper clients administration service value =
    value ≡ record value { machine = machine; keeper = keeper; clients = clients; administration = administration; service = service }

-- a file stands for the batches that were kept, and some that are accepted from a state on
abbrev pub StandsForMore : {K : Type 0} → State → (K → List ℕ → List (List ℕ) → Type 0) → K → List (List ℕ) → List ℕ → Type 0
StandsForMore opening stands keeper kept file = (more : List (List ℕ)) × IsSome (after accepted_by opening more) × stands keeper file (kept ++ more)

-- whatever a crash at any moment of a service leaves stands for the batches that its keeper kept, and some that are accepted after them
abbrev pub LosesNone : {K : Type 0} → Keeps K → State → K → K → Type 0
LosesNone known opening first last =
    known.reliable → (batches : List (List ℕ)) → known.keeps first batches
    → LeavesOnly known.moment known.left_since first last (StandsForMore opening known.stands first batches)

-- a service names a cause just where it ended because its journal failed: a call of the keeper failed for this cause, or the batches that it kept couldn't
-- follow those of the history
pub record NamesCause (fails : LogCause → Type 0) (outcome : Outcome) (found : Option LogCause) : Type 0 where
  pub named : outcome ≡ Err JournalFailed → IsSome found
  pub failed : IfSome found (λ cause. (outcome ≡ Err JournalFailed) × IsCause fails cause)

-- the batches that were accepted: none where the map wasn't shared
abbrev pub batches_of : Option (List (List ℕ)) → List (List ℕ)
batches_of None = []
batches_of (Some batches) = batches
