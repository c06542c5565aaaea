-- The batches that a file stands for.
use Rattle.std.proofs.Common.{◌≡◌, ℕ, ◌+◌, ◌≤◌, Option, List, [], ◌++◌, length, refl, sym, ◌∙◌, ap, subst, append_assoc, length-append, arith}
use Rattle.std.proofs.lemmas.List.{append-nil}
use Rattle.sha2.specs.Sha256.{sha256}
use Rattle.sha2.proofs.Facts256.{length-sha256}
use Rattle.journal.specs.Name.{IsBounded, journal_name, name_bytes, written_of}
use Rattle.journal.specs.Record.{header, records, journal_of}
use Rattle.journal.specs.Reading.{IsTorn, StandsFor, StandsForFirst}
use Rattle.journal.specs.Law.{PartIsRefused}
use Rattle.journal.specs.declared.name.Compaction.{Compaction}
use Rattle.journal.specs.declared.name.JournalName.{JournalName}
use Rattle.journal.proofs.Readings.{one, reads_torn, written, begins_at}
use Rattle.journal.proofs.Names.{one_name}
use Rattle.journal.proofs.Growing.{journal_append}

module _ (name : JournalName) where
  abbrev bytes : List ℕ
  bytes = name_bytes name

  -- a journal and a torn tail stand for its batches, where none is missing that was written with the header
  pub stands_torn : (batches : List (List ℕ)) (tail : List ℕ) → IsTorn sha256 (name_bytes name) tail → written_of name.compaction ≤ length batches
      → StandsFor name (journal_of sha256 (name_bytes name) batches ++ tail) batches
  stands_torn batches tail torn whole = record { tail = tail; reads = reads_torn sha256 bytes length-sha256 batches tail torn; torn = torn; whole = whole }

  -- and so does the journal by itself
  pub stands : (batches : List (List ℕ)) → written_of name.compaction ≤ length batches → StandsFor name (journal_of sha256 (name_bytes name) batches) batches
  stands batches whole = let read = written sha256 bytes length-sha256 batches in record { tail = []; reads = read.0; torn = read.1; whole = whole }

  -- a file stands for one list of batches
  pub one_standing : (file : List ℕ) (a b : List (List ℕ)) → StandsFor name file a → StandsFor name file b → a ≡ b
  one_standing file a b is_a is_b = (one sha256 bytes length-sha256 file a b is_a.tail is_b.tail is_a.reads is_b.reads).0

  -- a file that stands for some batches, and for none after them
  pub stands_first : (batches more : List (List ℕ)) (file : List ℕ) → StandsFor name file batches → StandsForFirst name batches more file
  stands_first batches more file stood = ([], (more, refl), subst (StandsFor name file) (sym (append-nil batches)) stood)

  -- the file where an append of records stops, with some of their bytes, all or none
  pub stops_at : (batches more : List (List ℕ)) (left missing : List ℕ) → written_of name.compaction ≤ length batches → left ++ missing ≡ records sha256 (name_bytes name) (length batches + 1) more
      → StandsForFirst name batches more (journal_of sha256 (name_bytes name) batches ++ left)
  stops_at batches more left missing whole is =
      let found = begins_at sha256 bytes length-sha256 (length batches + 1) more left missing (sym is) in
      let file : journal_of sha256 bytes batches ++ left ≡ journal_of sha256 bytes (batches ++ found.whole) ++ found.tail =
      ap (λ (l : List ℕ). journal_of sha256 bytes batches ++ l) found.is
      ∙ sym (append_assoc (journal_of sha256 bytes batches) (records sha256 bytes (length batches + 1) found.whole) found.tail)
      ∙ ap (λ (l : List ℕ). l ++ found.tail) (sym (journal_append sha256 bytes (length batches + 1) batches found.whole refl)) in
      let enough : written_of name.compaction ≤ length (batches ++ found.whole) = omega (arith, whole, length-append batches found.whole) in (
        found.whole,
        (found.later, sym found.parts),
        subst (λ (f : List ℕ). StandsFor name f (batches ++ found.whole)) (sym file) (stands_torn (batches ++ found.whole) found.tail found.torn enough),
      )

-- the header and the records of a file are its journal
pub whole_file : (name file rest tail : List ℕ) (batches : List (List ℕ)) → file ≡ header sha256 name ++ rest → rest ≡ records sha256 name 1 batches ++ tail → file ≡ journal_of sha256 name batches ++ tail
whole_file name file rest tail batches is split = is ∙ ap (λ (l : List ℕ). header sha256 name ++ l) split ∙ sym (append_assoc (header sha256 name) (records sha256 name 1 batches) tail)

-- a file that stands for batches begins with the header of its journal
pub begins_with_header : (name : JournalName) (file : List ℕ) (batches : List (List ℕ)) → (is : StandsFor name file batches)
    → file ≡ header sha256 (name_bytes name) ++ (records sha256 (name_bytes name) 1 batches ++ is.tail)
begins_with_header name file batches is = is.reads.whole ∙ append_assoc (header sha256 (name_bytes name)) (records sha256 (name_bytes name) 1 batches) is.tail

-- a file stands for batches under one name of a map's journal
pub one_journal : (fingerprint : List ℕ) (c d : Option Compaction) (file : List ℕ) (a b : List (List ℕ)) → length fingerprint ≡ 32 → IsBounded c → IsBounded d
    → StandsFor (journal_name fingerprint c) file a → StandsFor (journal_name fingerprint d) file b → (c ≡ d) × (a ≡ b)
one_journal fingerprint c d file a b long bounded_c bounded_d is_a is_b =
    (same, one_standing (journal_name fingerprint d) file a b (subst (λ (o : Option Compaction). StandsFor (journal_name fingerprint o) file a) same is_a) is_b)
  where
    same : c ≡ d
    same =
        let both = one_name sha256 length-sha256 fingerprint fingerprint c d _ _ long long bounded_c bounded_d
        (sym (begins_with_header (journal_name fingerprint c) file a is_a) ∙ begins_with_header (journal_name fingerprint d) file b is_b) in
        both.1

-- a file with fewer batches than were written with its header stands for none
pub part : PartIsRefused
part name file batches others tail reads few is =
    let same = (one sha256 (name_bytes name) length-sha256 file batches others tail is.tail reads is.reads).0 in
    omega (arith, few, is.whole, ap (λ (l : List (List ℕ)). length l) same)
