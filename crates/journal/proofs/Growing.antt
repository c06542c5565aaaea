-- Records one after the other, and how long they are.
use Rattle.std.proofs.Common.{◌≡◌, ℕ, suc, ◌+◌, ◌≤◌, List, [], ◌∷◌, ◌++◌, length, Vec, Global, refl, sym, ◌∙◌, ap, arith, append_assoc, length-append}
use Rattle.std.proofs.lemmas.List.{append-nil}
use Rattle.journal.specs.Slip.{escaped, stuffed}
use Rattle.journal.specs.Record.{sequence_bytes, body, record_of, records, journal_of, header}
use Rattle.journal.proofs.Stuffing.{Escapes, escapes}
use Rattle.journal.proofs.Stuffing.Escapes.{End, Escape, Plain}
use Rattle.journal.specs.Texts.{texts_of}
use Rattle.journal.proofs.Frames.{length-sequence_bytes}

-- texts are as many as they are
pub length-texts : (texts : List (Vec ℕ Global)) → length (texts_of texts) ≡ length texts
length-texts [] = refl
length-texts (text ∷ texts) = ap suc (length-texts texts)

longer_byte : (b : ℕ) (rest : List ℕ) → Escapes b rest → length rest + 1 ≤ length (escaped b rest)
longer_byte b rest (End p e) = omega (arith, ap length e)
longer_byte b rest (Escape p e) = omega (arith, ap length e)
longer_byte b rest (Plain p n e) = omega (arith, ap length e)

-- a frame has no fewer bytes than its contents
pub longer : (bs : List ℕ) → length bs ≤ length (stuffed bs)
longer [] = omega arith
longer (b ∷ bs) = omega (arith, longer bs, longer_byte b (stuffed bs) (escapes b (stuffed bs)))

module _ (digest : List ℕ → List ℕ) (name : List ℕ) where
  -- a record has at least 9 bytes
  pub length-numbered : (number : ℕ) (batch : List ℕ) → 9 ≤ length (record_of digest name (sequence_bytes number) batch)
  length-numbered number batch =
      let decoded = body digest name (sequence_bytes number) batch in
      omega (arith, length-append (stuffed decoded) (192 ∷ []), longer decoded, length-append (sequence_bytes number) (batch ++ digest (name ++ (sequence_bytes number ++ batch))), length-sequence_bytes number)

  -- one more record
  pub records_push : (n m : ℕ) (batches : List (List ℕ)) (batch : List ℕ) → m ≡ n + length batches → records digest name n (batches ++ batch ∷ []) ≡ records digest name n batches ++ record_of digest name (sequence_bytes m) batch
  records_push n m [] batch is = append-nil (record_of digest name (sequence_bytes n) batch) ∙ ap (λ (k : ℕ). record_of digest name (sequence_bytes k) batch) (let same : n ≡ m = omega arith in same)
  records_push n m (b ∷ batches) batch is =
      ap (λ (l : List ℕ). record_of digest name (sequence_bytes n) b ++ l) (records_push (n + 1) m batches batch (omega arith))
      ∙ sym (append_assoc (record_of digest name (sequence_bytes n) b) (records digest name (n + 1) batches) (record_of digest name (sequence_bytes m) batch))

  -- more records
  pub records_append : (n m : ℕ) (batches more : List (List ℕ)) → m ≡ n + length batches → records digest name n (batches ++ more) ≡ records digest name n batches ++ records digest name m more
  records_append n m [] more is = ap (λ (k : ℕ). records digest name k more) (let same : n ≡ m = omega arith in same)
  records_append n m (b ∷ batches) more is =
      ap (λ (l : List ℕ). record_of digest name (sequence_bytes n) b ++ l) (records_append (n + 1) m batches more (omega arith))
      ∙ sym (append_assoc (record_of digest name (sequence_bytes n) b) (records digest name (n + 1) batches) (records digest name m more))

  -- the journal with more batches
  pub journal_append : (m : ℕ) (batches more : List (List ℕ)) → m ≡ length batches + 1 → journal_of digest name (batches ++ more) ≡ journal_of digest name batches ++ records digest name m more
  journal_append m batches more is =
      ap (λ (l : List ℕ). header digest name ++ l) (records_append 1 m batches more (omega arith))
      ∙ sym (append_assoc (header digest name) (records digest name 1 batches) (records digest name m more))
