-- The header that a file begins with, by the first bytes of it.
use Rattle.std.proofs.Common.{◌≡◌, inl, inr, ⊎_elim, ℕ, ◌+◌, ◌-◌, ◌≤◌, List, ◌++◌, length, take, drop, Option, refl, sym, ◌∙◌, ap, arith, append_assoc, length-append, take-append-drop}
use Rattle.std.proofs.lemmas.List.{drop_at}
use Rattle.std.proofs.Math.Seq.{take-append-add}
use Rattle.sha2.specs.Sha256.{sha256}
use Rattle.sha2.proofs.Facts256.{length-sha256}
use Rattle.batches.specs.Batch.{State}
use Rattle.journal.specs.Header.{StartsWith, StartsSealed, StartsOfMap, IsHeaderFault}
use Rattle.journal.specs.Name.{IsBounded, journal_name, name_bytes}
use Rattle.journal.specs.Record.{signature, compacted_signature, earlier_signature, header}
use Rattle.journal.specs.Reading.{StandsFor}
use Rattle.journal.specs.declared.header.HeaderFault.{HeaderFault}
use Rattle.journal.specs.declared.header.HeaderFault.TheVariants as header_fault
use Rattle.journal.specs.declared.name.Compaction.{Compaction}
use Rattle.journal.specs.declared.name.JournalName.{JournalName}
use Rattle.journal.proofs.Headers.{has_no_fault}
use Rattle.journal.proofs.Names.{length-signature, length-compacted_signature, length-earlier_signature, short_header, one_name}
use Rattle.journal.proofs.Standing.{begins_with_header}
use Rattle.journalfile.specs.Recovery.{IsFaultOf, IsNameFault, IsTransient}
use Rattle.journalfile.specs.declared.recovery.RecoverFault.{RecoverFault}
use Rattle.journalfile.specs.declared.recovery.RecoverFault.TheVariants as recover_fault

-- a file begins as its first bytes do
pub begins_file : (file bytes front more : List ℕ) (count position : ℕ) → bytes ≡ take count file → bytes ≡ front ++ more → position ≡ length front → file ≡ front ++ drop position file
begins_file file bytes front more count position read is here =
    let whole : file ≡ front ++ (more ++ drop count file) =
    sym (take-append-drop count file) ∙ ap (λ (l : List ℕ). l ++ drop count file) (sym read ∙ is) ∙ append_assoc front more (drop count file) in
    let later : drop position file ≡ more ++ drop count file =
    ap (λ (n : ℕ). drop n file) here ∙ ap (λ (l : List ℕ). drop (length front) l) whole ∙ drop_at front (more ++ drop count file) (length front) refl in
    whole ∙ ap (λ (l : List ℕ). front ++ l) (sym later)

-- its first bytes begin as the file does
pub first_bytes : (file bytes front rest : List ℕ) (count : ℕ) → bytes ≡ take count file → length front ≤ count → file ≡ front ++ rest → bytes ≡ front ++ take (count - length front) rest
first_bytes file bytes front rest count read short is =
    let split : count ≡ length front + (count - length front) = omega (arith, short) in
    read ∙ ap (λ (l : List ℕ). take count l) is ∙ ap (λ (n : ℕ). take n (front ++ rest)) split ∙ take-append-add front rest (count - length front)

module _ (file bytes : List ℕ) (read : bytes ≡ take 98 file) where
  -- what the first bytes begin with the file begins with
  back : (front : List ℕ) → StartsWith front bytes → StartsWith front file
  back front (rest, is) = (rest ++ drop 98 file, sym (take-append-drop 98 file) ∙ ap (λ (l : List ℕ). l ++ drop 98 file) (sym read ∙ is) ∙ append_assoc front rest (drop 98 file))

  -- and the other way round
  there : (front : List ℕ) → length front ≤ 98 → StartsWith front file → StartsWith front bytes
  there front short (rest, is) = (take (98 - length front) rest, first_bytes file bytes front rest 98 read short is)

  sealed_back : StartsSealed bytes → StartsSealed file
  sealed_back (name, long, front) = (name, long, back (compacted_signature ++ (name ++ sha256 name)) front)

  sealed_there : StartsSealed file → StartsSealed bytes
  sealed_there (name, long, front) =
      let short : length (compacted_signature ++ (name ++ sha256 name)) ≤ 98 =
      omega (arith, length-append compacted_signature (name ++ sha256 name), length-append name (sha256 name), length-compacted_signature, long, length-sha256 name) in
      (name, long, there (compacted_signature ++ (name ++ sha256 name)) short front)

  of_map_there : (fingerprint : List ℕ) → length fingerprint ≡ 32 → StartsOfMap fingerprint file → StartsOfMap fingerprint bytes
  of_map_there fingerprint long (name, same, front) =
      let short : length (header sha256 (name_bytes name)) ≤ 98 = short_header sha256 length-sha256 name.fingerprint name.compaction (ap (λ (l : List ℕ). length l) same ∙ long) in
      (name, same, there (header sha256 (name_bytes name)) short front)

  -- so the first bytes have the fault of the file
  pub fault_of_file : (fingerprint : List ℕ) → length fingerprint ≡ 32 → (fault : HeaderFault) → IsHeaderFault fingerprint bytes fault → IsHeaderFault fingerprint file fault
  fault_of_file fingerprint long header_fault.NotAJournal none = λ begins. none
      (⊎_elim (λ plain. inl (there signature (omega (arith, length-signature)) plain))
      (λ other. inr (⊎_elim (λ earlier. inl (there earlier_signature (omega (arith, length-earlier_signature)) earlier))
      (λ compacted. inr (there compacted_signature (omega (arith, length-compacted_signature)) compacted)) other)) begins)
  fault_of_file fingerprint long header_fault.EarlierForm earlier = back earlier_signature earlier
  fault_of_file fingerprint long header_fault.Damaged (signed, none) = (back compacted_signature signed, λ sealed. none (sealed_there sealed))
  fault_of_file fingerprint long header_fault.OtherMap (signed, none) =
      (⊎_elim (λ plain. inl (back signature plain)) (λ sealed. inr (sealed_back sealed)) signed, λ of_map. none (of_map_there fingerprint long of_map))

module _ {L : Type 0} (content : L → List ℕ) where
  -- why the header of a map's journal isn't read is why the journal isn't opened
  pub name_fault : {F : Type 0} (name : JournalName) (old new : L) (first : State) (fault : RecoverFault F) → IsNameFault name.fingerprint content old new fault
      → IsFaultOf name content old new first fault
  name_fault name old new first (recover_fault.Header header_fault.NotAJournal) is = is
  name_fault name old new first (recover_fault.Header header_fault.EarlierForm) is = is
  name_fault name old new first (recover_fault.Header header_fault.Damaged) is = is
  name_fault name old new first (recover_fault.Header header_fault.OtherMap) is = ((λ begins. is.0.1 (name, refl, begins)), is.1)
  name_fault name old new first (recover_fault.Damaged count) is = absurd is
  name_fault name old new first (recover_fault.Refused number) is = absurd is
  name_fault name old new first recover_fault.NoMemory is = is
  name_fault name old new first (recover_fault.Failed failure) is = tt

  -- a file that begins with the header of a journal of the map is read, unless memory is refused or the log fails
  pub transient_name : {F : Type 0} (old new : L) (name : JournalName) → length name.fingerprint ≡ 32 → StartsWith (header sha256 (name_bytes name)) (content old)
      → (fault : RecoverFault F) → IsNameFault name.fingerprint content old new fault → IsTransient fault
  transient_name old new name long begins (recover_fault.Header fault) is = absurd (has_no_fault name.fingerprint (content old) name long refl begins fault is.0)
  transient_name old new name long begins (recover_fault.Damaged count) fault = absurd fault
  transient_name old new name long begins (recover_fault.Refused number) fault = absurd fault
  transient_name old new name long begins recover_fault.NoMemory fault = tt
  transient_name old new name long begins (recover_fault.Failed failure) fault = tt

-- one name stands in the header of a file
pub same_name : (one other : JournalName) (file : List ℕ) → length one.fingerprint ≡ 32 → length other.fingerprint ≡ 32 → IsBounded one.compaction → IsBounded other.compaction
    → StartsWith (header sha256 (name_bytes one)) file → StartsWith (header sha256 (name_bytes other)) file → one ≡ other
same_name one other file long_one long_other bounded_one bounded_other (s, is_one) (t, is_other) =
    let parts = one_name sha256 length-sha256 one.fingerprint other.fingerprint one.compaction other.compaction s t long_one long_other bounded_one bounded_other (sym is_one ∙ is_other) in
    ap (λ (l : List ℕ). journal_name l one.compaction) parts.0 ∙ ap (λ (c : Option Compaction). journal_name other.fingerprint c) parts.1

-- a file that stands for batches begins with the header of its journal
pub begins_with : (name : JournalName) (file : List ℕ) (batches : List (List ℕ)) → StandsFor name file batches → StartsWith (header sha256 (name_bytes name)) file
begins_with name file batches is = (_, begins_with_header name file batches is)
