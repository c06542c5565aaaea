-- Until the first checkpoint the journal has all batches.
use Rattle.std.proofs.Common.{◌≡◌, inl, inr, ℕ, ◌≤◌, List, [], ◌∷◌, ◌++◌, length, Option, None, sym, ap, subst, arith}
use Rattle.std.proofs.lemmas.List.{append-nil}
use Rattle.sha2.specs.Sha256.{sha256}
use Rattle.journal.specs.Name.{journal_name, name_of, written_of}
use Rattle.journal.specs.Record.{header, journal_of}
use Rattle.journal.specs.Reading.{StandsFor}
use Rattle.journal.specs.declared.name.Compaction.{Compaction}
use Rattle.journal.proofs.Standing.{stands}
use Rattle.durability.specs.Service.{Service, Event, Journal, Published, IsFileOf, IsSubmitted, IsStarted, IsStep, IsRun, with_batch}
use Rattle.durability.specs.Service.Service.{Running, Stopped}
use Rattle.durability.specs.Service.Event.{Submit, Retry, Checkpoint, Crash, Start}
use Rattle.durability.specs.Law.{HasAll, HasNoCheckpoint, IsWhole, Skips}
use Rattle.durability.proofs.Lives.{one_journal}

module _ {S : Type 0} (accepted : S → List ℕ → Option S) (skipping : ℕ → S → S) (fingerprint : List ℕ) (start : S) (skips : Skips skipping) (long : length fingerprint ≡ 32) where
  abbrev All : Service → Type 0
  All service = HasAll fingerprint service

  becomes : (new other : Service) → new ≡ other → All other → All new
  becomes new other is has = subst All (sym is) has

  -- the file of a journal that has all batches
  of_all : (journal : Journal) (batches : List (List ℕ)) (file : List ℕ) → journal.compaction ≡ None → journal.own ≡ batches → StandsFor (journal_name fingerprint journal.compaction) file journal.own
      → StandsFor (journal_name fingerprint None) file batches
  of_all journal batches file none own stood =
      subst (StandsFor (journal_name fingerprint None) file) own (subst (λ (c : Option Compaction). StandsFor (journal_name fingerprint c) file journal.own) none stood)

  -- the journal of a file that stands for all batches has all of them
  all_of : (batches : List (List ℕ)) (file : List ℕ) (journal : Journal) → StandsFor (journal_name fingerprint None) file batches → IsFileOf fingerprint journal file
      → (journal.compaction ≡ None) × (journal.own ≡ batches)
  all_of batches file journal stood read =
      let whole : Journal = record { compaction = None; own = batches } in
      let same : journal ≡ whole = one_journal accepted skipping fingerprint start skips long journal whole file read (record { bounded = (omega arith, omega arith); stands = stood }) in
      (ap (λ (j : Journal). j.compaction) same, ap (λ (j : Journal). j.own) same)

  module _ (journal : Journal) (batches shown : List (List ℕ)) (none : journal.compaction ≡ None) (own : journal.own ≡ batches) where
    more : (b : List ℕ) → journal.own ++ b ∷ [] ≡ batches ++ b ∷ []
    more b = ap (λ (l : List (List ℕ)). l ++ b ∷ []) own

    submits : (b : List ℕ) (now : List (Published S)) (new : Service) → IsSubmitted accepted skipping fingerprint start journal batches shown b now new → All new
    submits b now new (inl (nothing, is)) = becomes new (Running journal batches shown) is (none, own)
    submits b now new (inr (inl (some, inl (shows, is)))) = becomes new (Running (with_batch journal b) (batches ++ b ∷ []) (batches ++ b ∷ [])) is (none, more b)
    submits b now new (inr (inl (some, inr (nothing, is)))) = becomes new (Running (with_batch journal b) (batches ++ b ∷ []) shown) is (none, more b)
    submits b now new (inr (inr (file, inl (left, (nothing, is))))) = becomes new (Stopped batches file) is (of_all journal batches file none own left.stands)
    submits b now new (inr (inr (file, inr (some, left, (nothing, is))))) =
        becomes new (Stopped (batches ++ b ∷ []) file) is (of_all (with_batch journal b) (batches ++ b ∷ []) file none (more b) left.stands)

    crash_left : StandsFor (journal_name fingerprint None) (journal_of sha256 (name_of fingerprint journal.compaction) journal.own) batches
    crash_left =
        let few : written_of journal.compaction ≤ length journal.own = omega (arith, ap written_of none) in
        of_all journal batches (journal_of sha256 (name_of fingerprint journal.compaction) journal.own) none own (stands (journal_name fingerprint journal.compaction) journal.own few)

  starts : (batches : List (List ℕ)) (file : List ℕ) (now : List (Published S)) (new : Service) → StandsFor (journal_name fingerprint None) file batches
      → IsStarted accepted skipping fingerprint start batches file now new → All new
  starts batches file now new stood (inl (journal, read, (shows, is))) = becomes new (Running journal batches batches) is (all_of batches file journal stood read)
  starts batches file now new stood (inr (other, inl alike, (nothing, is))) =
      becomes new (Stopped batches other) is (subst (λ (f : List ℕ). StandsFor (journal_name fingerprint None) f batches) (sym alike) stood)
  starts batches file now new stood (inr (other, inr (journal, here, there), (nothing, is))) =
      let same = all_of batches file journal stood here in
      becomes new (Stopped batches other) is (of_all journal batches other same.0 same.1 there.stands)

  step_whole : (service : Service) (event : Event) (now : List (Published S)) (new : Service) → HasNoCheckpoint (event ∷ []) → All service
      → IsStep accepted skipping fingerprint start service event now new → All new
  step_whole (Running journal batches shown) (Submit b) now new no_checkpoint (none, own) step = submits journal batches shown none own b now new step
  step_whole (Running journal batches shown) Retry now new no_checkpoint has (inl (shows, is)) = becomes new (Running journal batches batches) is has
  step_whole (Running journal batches shown) Retry now new no_checkpoint has (inr (nothing, is)) = becomes new (Running journal batches shown) is has
  step_whole (Running journal batches shown) Checkpoint now new no_checkpoint has step = absurd no_checkpoint
  step_whole (Running journal batches shown) Crash now new no_checkpoint (none, own) (nothing, is) =
      becomes new (Stopped batches (journal_of sha256 (name_of fingerprint journal.compaction) journal.own)) is (crash_left journal batches shown none own)
  step_whole (Running journal batches shown) Start now new no_checkpoint has (nothing, is) = becomes new (Running journal batches shown) is has
  step_whole (Stopped batches file) Start now new no_checkpoint has step = starts batches file now new has step
  step_whole (Stopped batches file) (Submit b) now new no_checkpoint has (nothing, is) = becomes new (Stopped batches file) is has
  step_whole (Stopped batches file) Retry now new no_checkpoint has (nothing, is) = becomes new (Stopped batches file) is has
  step_whole (Stopped batches file) Checkpoint now new no_checkpoint has (nothing, is) = becomes new (Stopped batches file) is has
  step_whole (Stopped batches file) Crash now new no_checkpoint has (nothing, is) = becomes new (Stopped batches file) is has

  -- no checkpoint comes first, nor later
  none_first : (event : Event) (events : List Event) → HasNoCheckpoint (event ∷ events) → HasNoCheckpoint (event ∷ []) × HasNoCheckpoint events
  none_first (Submit b) events none = (tt, none)
  none_first Retry events none = (tt, none)
  none_first Checkpoint events none = absurd none
  none_first Crash events none = (tt, none)
  none_first Start events none = (tt, none)

  run_whole : (events : List Event) (service : Service) (published : List (Published S)) (new : Service) → HasNoCheckpoint events → All service
      → IsRun accepted skipping fingerprint start service events published new → All new
  run_whole [] service published new none has (nothing, is) = becomes new service is has
  run_whole (event ∷ events) service published new none has (now, later, mid, step, run, is) =
      let parts = none_first event events none in
      run_whole events mid later new parts.1 (step_whole service event now mid parts.0 has step) run

  pub whole : IsWhole accepted skipping fingerprint start
  whole events published new none run =
      let name = journal_name fingerprint None in
      let begins = subst (λ (f : List ℕ). StandsFor name f []) (append-nil (header sha256 fingerprint)) (stands name [] (omega arith)) in
      run_whole events (Stopped [] (header sha256 fingerprint)) published new none begins run
