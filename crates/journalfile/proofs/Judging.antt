-- Why a journal that is read frame by frame is opened, or not.
use Rattle.std.proofs.Common.{◌≡◌, ℕ, ◌+◌, List, ◌++◌, length, drop, sym, ◌∙◌, ap, subst}
use Rattle.sha2.specs.Sha256.{sha256}
use Rattle.std.specs.Prelude.{Result, Ok, Err, IfOk}
use Rattle.batches.specs.Batch.{State}
use Rattle.journal.specs.Name.{name_bytes}
use Rattle.journal.specs.Record.{header, journal_of}
use Rattle.journal.specs.Reading.{StartsWithNumber, Reads, IsTorn}
use Rattle.journal.specs.declared.name.JournalName.{JournalName}
use Rattle.journal.proofs.Standing.{whole_file}
use Rattle.journalfile.specs.Recovery.{HasReplayed, HasJudged}
use Rattle.journalfile.specs.declared.recovery.Judged.{Judged}

module _ (name : List ℕ) where
  -- the reading of a file whose header and records were read
  pub replayed_reads : (reliable : Type 0) (file : List ℕ) (start : ℕ) (first last : State) (count end : ℕ) → file ≡ header sha256 name ++ drop start file → (replayed : HasReplayed name reliable file start first last count end)
      → reliable → Reads sha256 name file replayed.batches (drop end file)
  replayed_reads reliable file start first last count end is replayed r = record {
    whole = whole_file name file (drop start file) (drop end file) replayed.batches is (replayed.split r);
    longest = λ has. replayed.longest r (subst (λ (n : ℕ). StartsWithNumber sha256 name (n + 1) (drop end file)) (sym replayed.counted) has);
  }

-- what was judged of a file that is the same
pub judged_before : {F : Type 0} (name : JournalName) (reliable : Type 0) (mid old : List ℕ) (first last : State) (result : Result Judged F) → (reliable → mid ≡ old)
    → IfOk result (HasJudged name reliable mid first last) → IfOk result (HasJudged name reliable old first last)
judged_before name reliable mid old first last (Ok judged) same was = record {
  batches = was.batches;
  counted = was.counted;
  after = was.after;
  enough = was.enough;
  whole = λ r. subst (λ (f : List ℕ). f ≡ journal_of sha256 (name_bytes name) was.batches ++ drop judged.end f) (same r) (was.whole r);
  torn = λ r. subst (λ (f : List ℕ). IsTorn sha256 (name_bytes name) (drop judged.end f)) (same r) (was.torn r);
  ends = λ r. was.ends r ∙ ap length (same r);
}
judged_before name reliable mid old first last (Err fault) same was = was
