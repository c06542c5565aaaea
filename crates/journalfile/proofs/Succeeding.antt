-- A journal and its successor.
use Rattle.std.proofs.Common.{◌≡◌, ◌⊎◌, inl, inr, ⊎_elim, ℕ, ◌+◌, ◌-◌, ◌^◌, ◌≤◌, min, Option, None, Some, List, ◌++◌, length, refl, sym, ◌∙◌, ap, subst}
use mathlib.Core.List.{IsPrefix}
use Rattle.batches.specs.Batch.{accepted}
use Rattle.compaction.specs.Compacted.{compacted, skipping}
use Rattle.compaction.proofs.Counting.{skipping-more}
use Rattle.compaction.proofs.Leading.{leads_to_the_same}
use Rattle.sharing.specs.Shortened.{IsShortOf}
use Rattle.sharing.proofs.Shortened.{short_again, short_more}
use Rattle.sha2.specs.Sha256.{sha256}
use Rattle.journal.specs.Name.{IsBounded, name_bytes, skipped_of, written_of}
use Rattle.journal.specs.Record.{journal_of}
use Rattle.journal.specs.declared.name.JournalName.{JournalName}
use Rattle.journal.specs.Reading.{StandsFor, StandsForFirst}
use Rattle.journal.proofs.Standing.{stands}
use Rattle.journalfile.specs.Compacting.{HasCompacted, IsCompacted, StandsForLeft, compacted_name, left_out}
use Rattle.journalfile.specs.Frames.{IsRead}
use Rattle.journalfile.specs.Keeping.{FileHas, JournalHas, settled_stands}
use Rattle.keepers.specs.Crashes.{LeavesOnly}
use Rattle.journalfile.specs.Log.{Elapses, NoOther}
use Rattle.journalfile.specs.Settled.{IsSettled}
use Rattle.journalfile.specs.declared.reading.NotCompacted.{NotCompacted}
use Rattle.journalfile.specs.declared.writing.Journal.{Journal}
use Rattle.keepers.proofs.Moments.{weaker}
use Rattle.journalfile.proofs.Elapsing.{goes_on}

-- what is left of batches is short of all that they are short of
pub shorter : (skipped : ℕ) (own batches : List (List ℕ)) → IsShortOf accepted skipping skipped own batches → IsShortOf accepted skipping (skipped + left_out own) (compacted own) batches
shorter skipped own batches short = short_again accepted skipping skipped (left_out own) (compacted own) own batches (λ s. skipping-more skipped (left_out own) s) short (leads_to_the_same own)

module _ {L : Type 0} (content : L → List ℕ) (may_leave : L → List ℕ → Type 0) where
  -- the bytes of the successor stand for what is left
  pub succeeded : (old new : Journal L) (own : List (List ℕ)) → IsCompacted content may_leave old.name own new → (file : List ℕ) → file ≡ content new.log → StandsForLeft old.name own file
  succeeded old new own is file same =
      let here = subst (λ (l : List ℕ). StandsFor new.name l (compacted own)) (sym (same ∙ is.settled.file)) (stands new.name (compacted own) is.settled.enough) in
      inr (subst (λ (n : JournalName). IsBounded n.compaction) is.named is.bounded, subst (λ (n : JournalName). StandsFor n file (compacted own)) is.named here)

  -- those of the journal before it, too
  pub unreplaced : (old : Journal L) (own : List (List ℕ)) → IsSettled content may_leave old own → (file : List ℕ) → may_leave old.log file → StandsForLeft old.name own file
  unreplaced old own settled file left = inl (settled_stands content may_leave old own settled file left)

  -- while the successor's log takes the place of the journal's, a crash leaves the batches of one of them
  pub taking_place : (moment : L → ℕ) (left_since : L → ℕ → List ℕ → Type 0) (old successor : Journal L) (mid new : L) (own : List (List ℕ))
      → IsSettled content may_leave old own → IsCompacted content may_leave old.name own successor → IsRead content may_leave moment left_since old.log mid
      → Elapses (moment mid) (moment new) (left_since mid) (left_since new) (may_leave new)
      → ((file : List ℕ) → may_leave new file → may_leave mid file ⊎ (file ≡ content successor.log))
      → LeavesOnly moment left_since old.log new (StandsForLeft old.name own)
  taking_place moment left_since old successor mid new own settled is read time crash =
      let here = unreplaced old own settled in
      goes_on moment left_since old.log mid new (StandsForLeft old.name own) (may_leave new)
      (weaker moment left_since old.log mid (may_leave old.log) (StandsForLeft old.name own) read.any_moment here) time
      (λ f left. ⊎_elim (λ l. here f (read.crash f l)) (succeeded old successor own is f) (crash f left))

  -- a journal whose log has its bytes, and is as settled as it was, is settled with the same batches
  pub still_settled : (old new : Journal L) (own : List (List ℕ)) → IsSettled content may_leave old own → content new.log ≡ content old.log → NoOther (may_leave old.log) (may_leave new.log)
      → new.name ≡ old.name → new.count ≡ old.count → new.length ≡ old.length → IsSettled content may_leave new own
  still_settled old new own settled same crash named counted long = record {
    file = same ∙ settled.file ∙ ap (λ n. journal_of sha256 (name_bytes n) own) (sym named);
    count = counted ∙ settled.count;
    enough = subst (λ n. written_of n.compaction ≤ length own) (sym named) settled.enough;
    durable = λ f left. settled.durable f (crash f left) ∙ sym same;
    noted = long ∙ settled.noted ∙ ap (λ (l : List ℕ). min (length l) (2 ^ 64 - 1)) (sym same);
  }

  -- both have the batches that the journal had
  pub left_has : (old : Journal L) (batches : List (List ℕ)) → (has : JournalHas content may_leave old batches) → (file : List ℕ) → StandsForLeft old.name has.own file → FileHas old.name.fingerprint file batches
  left_has old batches has file (inl here) = record { name = old.name; of_map = refl; own = has.own; stands = here; short = has.short; bounded = has.bounded }
  left_has old batches has file (inr (bounded, there)) = record {
    name = compacted_name old.name has.own;
    of_map = refl;
    own = compacted has.own;
    stands = there;
    short = shorter (skipped_of old.name.compaction) has.own batches has.short;
    bounded = bounded;
  }

  -- the successor has them
  pub compacted_has : (old new : Journal L) (batches : List (List ℕ)) → (has : JournalHas content may_leave old batches) → IsCompacted content may_leave old.name has.own new → JournalHas content may_leave new batches
  compacted_has old new batches has is = record {
    own = compacted has.own;
    settled = is.settled;
    short = subst (λ (n : JournalName). IsShortOf accepted skipping (skipped_of n.compaction) (compacted has.own) batches) (sym is.named) (shorter (skipped_of old.name.compaction) has.own batches has.short);
    bounded = is.bounded;
  }

  -- the journal that has its name and is settled with the same batches has what it had
  pub unchanged_has : (old new : Journal L) (batches : List (List ℕ)) → (has : JournalHas content may_leave old batches) → IsSettled content may_leave new has.own → new.name ≡ old.name → JournalHas content may_leave new batches
  unchanged_has old new batches has settled named = record {
    own = has.own;
    settled = settled;
    short = subst (λ (n : JournalName). IsShortOf accepted skipping (skipped_of n.compaction) has.own batches) (sym named) has.short;
    bounded = subst (λ (n : JournalName). IsBounded n.compaction) (sym named) has.bounded;
  }

  -- more batches follow
  pub more_has : (old new : Journal L) (batches more : List (List ℕ)) → (has : JournalHas content may_leave old batches) → IsSettled content may_leave new (has.own ++ more) → new.name ≡ old.name
      → JournalHas content may_leave new (batches ++ more)
  more_has old new batches more has settled named = record {
    own = has.own ++ more;
    settled = settled;
    short = subst (λ (n : JournalName). IsShortOf accepted skipping (skipped_of n.compaction) (has.own ++ more) (batches ++ more)) (sym named) (short_more accepted skipping (skipped_of old.name.compaction) has.own batches more has.short);
    bounded = subst (λ (n : JournalName). IsBounded n.compaction) (sym named) has.bounded;
  }

  -- a file that stands for the first of them has these
  pub first_has : (old : Journal L) (batches more : List (List ℕ)) → (has : JournalHas content may_leave old batches) → (file : List ℕ) → StandsForFirst old.name has.own more file
      → (first : List (List ℕ)) × IsPrefix first more × FileHas old.name.fingerprint file (batches ++ first)
  first_has old batches more has file (first, prefix, there) = (
    first,
    prefix,
    record {
      name = old.name;
      of_map = refl;
      own = has.own ++ first;
      stands = there;
      short = short_more accepted skipping (skipped_of old.name.compaction) has.own batches first has.short;
      bounded = has.bounded;
    },
  )

  -- a compacted journal has what it had, and so has one that wasn't
  pub has_after : (old new : Journal L) (batches : List (List ℕ)) → (has : JournalHas content may_leave old batches) → (why : Option NotCompacted) → HasCompacted content may_leave old new has.own why
      → JournalHas content may_leave new batches
  has_after old new batches has None is = compacted_has old new batches has is
  has_after old new batches has (Some why) (settled, named) = unchanged_has old new batches has settled named
