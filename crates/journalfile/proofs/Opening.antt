-- Why a journal that stands for accepted batches is opened, unless memory is refused or the log fails.
use Rattle.std.proofs.Common.{◌≡◌, ◌⊎◌, ⊎_elim, ℕ, ◌+◌, ◌<◌, ◌≤◌, List, [], ◌∷◌, ◌++◌, length, refl, sym, ◌∙◌, ap, subst, arith, append_assoc}
use Rattle.std.specs.Prelude.{Option, None, Some, IsSome}
use Rattle.std.proofs.lemmas.List.{append_cancel_left}
use mathlib.Core.List.{IsPrefix}
use Rattle.sha2.specs.Sha256.{sha256}
use Rattle.sha2.proofs.Facts256.{length-sha256}
use Rattle.batches.specs.Batch.{State, accepted}
use Rattle.sharing.specs.Sharing.{after}
use Rattle.sharing.proofs.Accepting.{front_accepted}
use Rattle.journal.specs.Record.{header, sequence_bytes, record_of, records}
use Rattle.journal.specs.Reading.{StartsWithNumber, ContainsRecord, Reads, IsTorn, StandsFor}
use Rattle.journal.specs.Header.{StartsWith}
use Rattle.journal.specs.Name.{name_bytes, written_of}
use Rattle.journal.specs.declared.header.HeaderFault.{HeaderFault}
use Rattle.journal.specs.declared.header.HeaderFault.TheVariants as header_fault
use Rattle.journal.specs.declared.name.JournalName.{JournalName}
use Rattle.journal.proofs.Frames.{within_front, same_recorded, number_is_record}
use Rattle.journal.proofs.Headers.{has_no_fault}
use Rattle.journal.proofs.Readings.{one}
use Rattle.journalfile.specs.Recovery.{IsRefusedAt, IsOtherHeader, IsFaultOf, IsTransient}
use Rattle.journalfile.specs.declared.recovery.RecoverFault.{RecoverFault}
use Rattle.journalfile.proofs.Headers.{begins_with}
use Rattle.journalfile.specs.declared.recovery.RecoverFault.TheVariants as recover_fault

module _ (name : List ℕ) where
  -- a list of records that some bytes begin with is a prefix of the longest such list
  first_records : (n : ℕ) (a b : List (List ℕ)) (x y : List ℕ) → (StartsWithNumber sha256 name (n + length b) y → ⊥) → records sha256 name n a ++ x ≡ records sha256 name n b ++ y → IsPrefix a b
  first_records n [] b x y none same = (b, refl)
  first_records n (c ∷ a) [] x y none same =
      absurd (none (subst (λ (k : ℕ). StartsWithNumber sha256 name k y) (omega arith) (c, records sha256 name (n + 1) a ++ x, sym same ∙ append_assoc (record_of sha256 name (sequence_bytes n) c) (records sha256 name (n + 1) a) x)))
  first_records n (c ∷ a) (d ∷ b) x y none same =
      let parts = same_recorded sha256 name length-sha256 (sequence_bytes n) (sequence_bytes n) c d (records sha256 name (n + 1) a ++ x) (records sha256 name (n + 1) b ++ y) refl
      (sym (append_assoc (record_of sha256 name (sequence_bytes n) c) (records sha256 name (n + 1) a) x) ∙ same ∙ append_assoc (record_of sha256 name (sequence_bytes n) d) (records sha256 name (n + 1) b) y) in
      let rest = first_records (n + 1) a b x y (λ has. none (subst (λ (k : ℕ). StartsWithNumber sha256 name k y) (omega arith) has)) parts.2 in
      (rest.0, cc (parts.1, rest.1))

  not_both : (o : Option State) → IsSome o → o ≡ None → ⊥
  not_both None some none = absurd (cc (some))
  not_both (Some s) some none = absurd (cc (none))

  not_refused : (file : List ℕ) (batches : List (List ℕ)) (tail : List ℕ) (first : State) (number : ℕ) → Reads sha256 name file batches tail → IsTorn sha256 name tail
      → IsSome (after accepted first batches) → (rest : List ℕ) → file ≡ header sha256 name ++ rest → IsRefusedAt name rest first number → ⊥
  not_refused file batches tail first number reads torn some rest is (bs, r, split, counts, none) =
      let same : records sha256 name 1 bs ++ r ≡ records sha256 name 1 batches ++ tail =
      append_cancel_left (header sha256 name) _ _ (ap (λ (l : List ℕ). header sha256 name ++ l) (sym split) ∙ (sym is ∙ reads.whole ∙ append_assoc (header sha256 name) (records sha256 name 1 batches) tail)) in
      let front = first_records 1 bs batches r tail (λ has. torn (within_front sha256 name tail (number_is_record sha256 name (1 + length batches) tail has))) same in
      not_both (after accepted first bs) (front_accepted accepted first bs front.0 (subst (λ (l : List (List ℕ)). IsSome (after accepted first l)) (sym front.1) some)) none

  -- bytes that stand for batches aren't damaged
  not_damaged : (file : List ℕ) (batches : List (List ℕ)) (tail : List ℕ) (written : ℕ) → Reads sha256 name file batches tail → IsTorn sha256 name tail → written ≤ length batches
      → (others : List (List ℕ)) (rest : List ℕ) → Reads sha256 name file others rest → ContainsRecord sha256 name rest ⊎ length others < written → ⊥
  not_damaged file batches tail written reads torn whole others rest damaged why =
      let same = one sha256 name length-sha256 file others batches rest tail damaged reads in
      ⊎_elim (λ within. torn (subst (ContainsRecord sha256 name) same.1 within)) (λ few. omega (arith, few, whole, ap (λ (l : List (List ℕ)). length l) same.0)) why

-- a header fault isn't that of a file that begins with the header of the journal
not_other : {L : Type 0} (name : JournalName) (content : L → List ℕ) (old : L) → length name.fingerprint ≡ 32 → StartsWith (header sha256 (name_bytes name)) (content old)
    → (fault : HeaderFault) → IsOtherHeader name content old fault → ⊥
not_other name content old long begins header_fault.NotAJournal is = has_no_fault name.fingerprint (content old) name long refl begins header_fault.NotAJournal is
not_other name content old long begins header_fault.EarlierForm is = has_no_fault name.fingerprint (content old) name long refl begins header_fault.EarlierForm is
not_other name content old long begins header_fault.Damaged is = has_no_fault name.fingerprint (content old) name long refl begins header_fault.Damaged is
not_other name content old long begins header_fault.OtherMap is = is begins

pub transient : {L F : Type 0} (name : JournalName) (content : L → List ℕ) (old new : L) (first : State) (batches : List (List ℕ)) → length name.fingerprint ≡ 32
    → StandsFor name (content old) batches → IsSome (after accepted first batches) → (fault : RecoverFault F) → IsFaultOf name content old new first fault → IsTransient fault
transient name content old new first batches long stands some (recover_fault.Header fault) (is, unchanged) =
    absurd (not_other name content old long (begins_with name (content old) batches stands) fault is)
transient name content old new first batches long stands some (recover_fault.Damaged count) ((others, rest, damaged, why, counts), unchanged) =
    absurd (not_damaged (name_bytes name) (content old) batches stands.tail (written_of name.compaction) stands.reads stands.torn stands.whole others rest damaged why)
transient name content old new first batches long stands some (recover_fault.Refused number) ((rest, is, refused), unchanged) =
    absurd (not_refused (name_bytes name) (content old) batches stands.tail first number stands.reads stands.torn some rest is refused)
transient name content old new first batches long stands some recover_fault.NoMemory is = tt
transient name content old new first batches long stands some (recover_fault.Failed failure) is = tt
