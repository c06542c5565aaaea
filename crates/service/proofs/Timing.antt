-- The workers that a service's threads gave back.
use Rattle.std.proofs.Common.{◌≡◌, ℕ, [], List, Option, None, Some, All, length, refl, subst, sym}
use Rattle.std.proofs.lemmas.List.Elements.{All-weaker}
use Rattle.std.specs.Prelude.{Result, Ok, Err, IfErr, IsErr, MatchResult, true}
use Rattle.batches.specs.Batch.{State}
use Rattle.commandline.specs.declared.subcommand.Service.{Service}
use Rattle.console.specs.Console.{Outcome}
use Rattle.console.specs.declared.failure.Failure.{Failure}
use Rattle.console.specs.declared.failure.Failure.TheVariants.{JournalFailed}
use Rattle.eventloop.specs.Rounds.{HasBeen}
use Rattle.eventloop.specs.declared.worker.Worker.{Worker}
use Rattle.mapshare.specs.Answerer.{reader_answers}
use Rattle.mapshare.specs.Reader.{ReaderValue}
use Rattle.network.specs.Times.{IsTimed}
use Rattle.administration.specs.Keeping.{IsCause, NoneLost}
use Rattle.administration.proofs.KeptBatches.{none_lost}
use Rattle.keepers.specs.declared.keeps.Keeps.{Ghosts as Keeps}
use Rattle.mapshare.specs.Admin.{Batches}
use Rattle.keepers.specs.declared.cause.LogCause.{LogCause}
use Rattle.mapshare.specs.declared.admin.KeepFailed as keep
use Rattle.service.specs.Serving.{HaveServed, LosesNone, NamesCause, WereServed}
use Rattle.turns.specs.Table.{timeouts_of}
use Rattle.turns.specs.declared.times.Timeouts.{Timeouts}
use Rattle.turns.specs.declared.transport.Transport.{Ghosts as Transport}

-- workers that were started for a service, and have been, have served
pub have-served : {T P : Type 0} (opening : State) (known : Transport T) (service : Service) (times : Timeouts) → IsTimed service times → (workers : List (Worker ReaderValue T P)) → length workers ≡ service.workers
    → All (HasBeen (reader_answers opening) known) workers → All (λ worker. timeouts_of worker.table ≡ times) workers → HaveServed opening known service workers
have-served opening known service times timed workers count been all = record {
  count = count;
  answered = been;
  timed = All-weaker (λ worker. timeouts_of worker.table ≡ times) (λ worker. IsTimed service (timeouts_of worker.table)) (λ worker is. subst (IsTimed service) (sym is) timed) workers all;
}

-- clients were served up to an end, too, that is good only where theirs is
pub were-served : {T : Type 0} (P : Type 0) (known : Transport T) (opening : State) (service : Service) (outcome final : Outcome) → WereServed P known opening service outcome → (final ≡ Ok tt → outcome ≡ Ok tt)
    → WereServed P known opening service final
were-served P known opening service outcome final served ends = record { workers = served.workers; well = λ fine. served.well (ends fine); served = served.served }

-- none were where it failed before
pub none-served : {T : Type 0} (P : Type 0) (known : Transport T) (opening : State) (service : Service) (failure : Failure) → WereServed P known opening service (Err failure)
none-served P known opening service failure = record { workers = None; well = λ fine. absurd (cc fine); served = tt }

-- the cause of an end is that of its keeper
pub names-cause : (kept : Result (Unit {0}) keep.KeepFailed) (outcome : Outcome) (found : Option LogCause) (fails : LogCause → Type 0)
    → (IsErr kept → outcome ≡ Err JournalFailed) → (outcome ≡ Err JournalFailed → IsErr kept)
    → MatchResult kept (λ _. found ≡ None) (λ failed. found ≡ Some failed.cause)
    → IfErr kept (λ failed. IsCause fails failed.cause) → NamesCause fails outcome found
names-cause (Ok done) outcome found fails ends began same is = subst (NamesCause fails outcome) (sym same) (record { named = λ e. absurd (cc (began e)); failed = tt })
names-cause (Err why) outcome found fails ends began same is = subst (NamesCause fails outcome) (sym same) (record { named = λ e. refl; failed = (ends refl, is) })

-- a service of which no batch was lost since it began loses none
pub loses-none : {K : Type 0} (known : Keeps K) (opening : State) (first last : K) (new : Batches) → NoneLost known opening (record { published = []; pending = [] }) first new last → LosesNone known opening first last
loses-none known opening first last new lost = λ reliable batches has. lost.any_moment reliable refl batches has

-- and so does one that did nothing
pub still-there : {K : Type 0} (known : Keeps K) (opening : State) (keeper : K)
    → (known.reliable → (keeper : K) (batches : List (List ℕ)) (file : List ℕ) → known.keeps keeper batches → known.left_since keeper (known.moment keeper) file → known.stands keeper file batches)
    → LosesNone known opening keeper keeper
still-there known opening keeper stays = λ reliable batches has. (none_lost known opening stays (record { published = []; pending = [] }) keeper).any_moment reliable refl batches has
