-- Journals as keepers of batches: they have these, or fewer that lead to the same state.
use Rattle.std.specs.Prelude.{◌≡◌, ℕ, List}
use Rattle.std.proofs.Common.{refl, sym, ◌∙◌, subst}
use Rattle.batches.specs.Batch.{accepted}
use Rattle.compaction.specs.Compacted.{skipping}
use Rattle.sharing.specs.Shortened.{IsShortOf}
use Rattle.journal.specs.Name.{IsBounded, skipped_of}
use Rattle.journal.specs.Reading.{StandsFor}
use Rattle.journal.specs.declared.name.JournalName.{JournalName}
use Rattle.journal.proofs.Standing.{stands}
use Rattle.journalfile.specs.Settled.{GarblesNoRecord, IsSettled}
use Rattle.journalfile.specs.declared.writing.Journal.{Journal}

-- a settled journal has these batches, or fewer that lead to the same state
pub record JournalHas {L : Type 0} (content : L → List ℕ) (may_leave : L → List ℕ → Type 0) (journal : Journal L) (batches : List (List ℕ)) : Type 0 where
  pub own : List (List ℕ)
  pub settled : IsSettled content may_leave journal own
  pub short : IsShortOf accepted skipping (skipped_of journal.name.compaction) own batches
  pub bounded : IsBounded journal.name.compaction

-- a file has these batches, or fewer that lead to the same state: it stands for them under a name of the map that says how many fewer they are
pub record FileHas (fingerprint file : List ℕ) (batches : List (List ℕ)) : Type 0 where
  pub name : JournalName
  pub of_map : name.fingerprint ≡ fingerprint
  pub own : List (List ℕ)
  pub stands : StandsFor name file own
  pub short : IsShortOf accepted skipping (skipped_of name.compaction) own batches
  pub bounded : IsBounded name.compaction

-- where the log is reliable, a journal has these batches or fewer that lead to the same state, and no crash makes a record, whatever its name
abbrev pub KeepsShorter : {L : Type 0} → Type 0 → (List ℕ → Type 0) → (L → List ℕ) → (L → List ℕ → Type 0) → Journal L → List (List ℕ) → Type 0
KeepsShorter reliable garbled content may_leave journal batches = reliable → ((name : List ℕ) → GarblesNoRecord garbled name) × JournalHas content may_leave journal batches

-- the bytes that a crash may leave of a settled journal stand for its batches
pub settled_stands : {L : Type 0} (content : L → List ℕ) (may_leave : L → List ℕ → Type 0) (journal : Journal L) (batches : List (List ℕ))
    → IsSettled content may_leave journal batches → (file : List ℕ) → may_leave journal.log file → StandsFor journal.name file batches
settled_stands content may_leave journal batches settled file left =
    subst (λ (l : List ℕ). StandsFor journal.name l batches) (sym (settled.durable file left ∙ settled.file)) (stands journal.name batches settled.enough)

-- and so they have the batches that the journal has
pub kept_stands : {L : Type 0} (content : L → List ℕ) (may_leave : L → List ℕ → Type 0) (journal : Journal L) (batches : List (List ℕ))
    → JournalHas content may_leave journal batches → (file : List ℕ) → may_leave journal.log file → FileHas journal.name.fingerprint file batches
kept_stands content may_leave journal batches has file left = record {
  name = journal.name;
  of_map = refl;
  own = has.own;
  stands = settled_stands content may_leave journal has.own has.settled file left;
  short = has.short;
  bounded = has.bounded;
}
