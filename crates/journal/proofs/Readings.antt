-- The readings of files, whatever became of their ends.
use Rattle.std.proofs.Common.{◌≡◌, ◌≢◌, ℕ, ◌+◌, List, [], ◌∷◌, ◌++◌, length, refl, sym, ◌∙◌, ap, subst, arith, append_assoc}
use Rattle.std.proofs.lemmas.List.{append-nil, append_cancel_left}
use Rattle.journal.specs.Record.{header, sequence_bytes, record_of, records, journal_of}
use Rattle.journal.specs.Reading.{StartsWithNumber, Reads, IsTorn}
use Rattle.journal.specs.Law.{IsDigest, HasOneReading, WrittenIsRead, StopsAnywhere, BeginsAnywhere, DamageIsSeen}
use Rattle.journal.proofs.Frames.{within_front, length-sequence_bytes, no_end_torn, cut_torn, number_is_record, same_recorded}

module _ (digest : List ℕ → List ℕ) (name : List ℕ) (is_digest : IsDigest digest) where
  -- records of some batches and a rest that doesn't go on
  goes_on : ℕ → List (List ℕ) → List ℕ → Type 0
  goes_on n batches tail = StartsWithNumber digest name (n + length batches) tail

  pub one_reading : (n : ℕ) (a b : List (List ℕ)) (s t : List ℕ)
      → (StartsWithNumber digest name (n + length a) s → ⊥) → (StartsWithNumber digest name (n + length b) t → ⊥)
      → records digest name n a ++ s ≡ records digest name n b ++ t → (a ≡ b) × (s ≡ t)
  one_reading n [] [] s t no_s no_t same = (refl, same)
  one_reading n [] (y ∷ b) s t no_s no_t same =
      absurd (no_s (subst (λ (k : ℕ). StartsWithNumber digest name k s) (omega arith) (y, records digest name (n + 1) b ++ t, same ∙ append_assoc (record_of digest name (sequence_bytes n) y) (records digest name (n + 1) b) t)))
  one_reading n (x ∷ a) [] s t no_s no_t same =
      absurd (no_t (subst (λ (k : ℕ). StartsWithNumber digest name k t) (omega arith) (x, records digest name (n + 1) a ++ s, sym same ∙ append_assoc (record_of digest name (sequence_bytes n) x) (records digest name (n + 1) a) s)))
  one_reading n (x ∷ a) (y ∷ b) s t no_s no_t same =
      let parts = same_recorded digest name is_digest (sequence_bytes n) (sequence_bytes n) x y (records digest name (n + 1) a ++ s) (records digest name (n + 1) b ++ t) refl
      (sym (append_assoc (record_of digest name (sequence_bytes n) x) (records digest name (n + 1) a) s) ∙ same ∙ append_assoc (record_of digest name (sequence_bytes n) y) (records digest name (n + 1) b) t) in
      let rest = one_reading (n + 1) a b s t
      (λ has. no_s (subst (λ (k : ℕ). StartsWithNumber digest name k s) (omega arith) has))
      (λ has. no_t (subst (λ (k : ℕ). StartsWithNumber digest name k t) (omega arith) has)) parts.2 in
      (cc (parts.1, rest.0), rest.1)

  pub one : HasOneReading digest name
  one file a b s t reads_a reads_b =
      one_reading 1 a b s t
      (λ has. reads_a.longest (subst (λ (k : ℕ). StartsWithNumber digest name k s) (omega arith) has))
      (λ has. reads_b.longest (subst (λ (k : ℕ). StartsWithNumber digest name k t) (omega arith) has))
      (append_cancel_left (header digest name) _ _ (sym (append_assoc (header digest name) (records digest name 1 a) s) ∙ (sym reads_a.whole ∙ reads_b.whole) ∙ append_assoc (header digest name) (records digest name 1 b) t))

  -- a journal and a torn end
  pub reads_torn : (batches : List (List ℕ)) (tail : List ℕ) → IsTorn digest name tail → Reads digest name (journal_of digest name batches ++ tail) batches tail
  reads_torn batches tail torn = record { whole = refl; longest = λ has. torn (within_front digest name tail (number_is_record digest name (length batches + 1) tail has)) }

  pub nothing_torn : IsTorn digest name []
  nothing_torn = no_end_torn digest name [] tt

  pub written : WrittenIsRead digest name
  written batches = (
    subst (λ (file : List ℕ). Reads digest name file batches []) (append-nil (journal_of digest name batches)) (reads_torn batches [] nothing_torn),
    nothing_torn,
  )

  pub stops : StopsAnywhere digest name
  stops batches batch piece missing is some =
      let torn = cut_torn digest name (sequence_bytes (length batches + 1)) batch piece missing is some in
      (reads_torn batches piece torn, torn)

  -- of two prefixes of one list one goes on where the other ends
  pub data Overlaps (a x b y : List ℕ) : Type 0 where
    Within : (more : List ℕ) → more ≢ [] → a ≡ b ++ more → y ≡ more ++ x → Overlaps a x b y
    Beyond : (more : List ℕ) → b ≡ a ++ more → x ≡ more ++ y → Overlaps a x b y

  pub overlap : (a x b y : List ℕ) → a ++ x ≡ b ++ y → Overlaps a x b y
  overlap [] x b y same = Beyond b refl same
  overlap (c ∷ a) x [] y same = Within (c ∷ a) (λ e. absurd (cc (e))) refl (sym same)
  overlap (c ∷ a) x (d ∷ b) y same = on c d a x b y (cc (same)) (overlap a x b y (cc (same)))
    where
      on : (c d : ℕ) (a x b y : List ℕ) → c ≡ d → Overlaps a x b y → Overlaps (c ∷ a) x (d ∷ b) y
      on c d a x b y e (Within more some is rest) = Within more some (cc (e, is)) rest
      on c d a x b y e (Beyond more is rest) = Beyond more (cc (e, is)) rest

  -- some bytes are the records of the first of some batches, and a torn end
  pub record Begins (n : ℕ) (batches : List (List ℕ)) (front : List ℕ) : Type 0 where
    pub whole : List (List ℕ)
    pub later : List (List ℕ)
    pub tail : List ℕ
    pub parts : batches ≡ whole ++ later
    pub is : front ≡ records digest name n whole ++ tail
    pub torn : IsTorn digest name tail

  begins_on : (n : ℕ) (batch : List ℕ) (batches : List (List ℕ)) (front missing : List ℕ)
      → Overlaps (record_of digest name (sequence_bytes n) batch) (records digest name (n + 1) batches) front missing
      → ((more : List ℕ) → records digest name (n + 1) batches ≡ more ++ missing → Begins (n + 1) batches more)
      → Begins n (batch ∷ batches) front
  begins_on n batch batches front missing (Within more some is rest) on =
      record { whole = []; later = batch ∷ batches; tail = front; parts = refl; is = refl; torn = cut_torn digest name (sequence_bytes n) batch front more is some }
  begins_on n batch batches front missing (Beyond more is rest) on =
      let behind = on more rest in
      record {
        whole = batch ∷ behind.whole;
        later = behind.later;
        tail = behind.tail;
        parts = ap (λ (l : List (List ℕ)). batch ∷ l) behind.parts;
        is = is ∙ ap (λ (l : List ℕ). record_of digest name (sequence_bytes n) batch ++ l) behind.is ∙ sym (append_assoc (record_of digest name (sequence_bytes n) batch) (records digest name (n + 1) behind.whole) behind.tail);
        torn = behind.torn;
      }

  -- a front of the bytes of records has the first records whole, and a torn end
  pub begins_at : (n : ℕ) (batches : List (List ℕ)) (front missing : List ℕ) → records digest name n batches ≡ front ++ missing → Begins n batches front
  begins_at n [] [] missing same = record { whole = []; later = []; tail = []; parts = refl; is = refl; torn = nothing_torn }
  begins_at n [] (b ∷ front) missing same = absurd (cc (same))
  begins_at n (batch ∷ batches) front missing same =
      begins_on n batch batches front missing (overlap (record_of digest name (sequence_bytes n) batch) (records digest name (n + 1) batches) front missing same)
      (λ more rest. begins_at (n + 1) batches more missing rest)

  pub begins : BeginsAnywhere digest name
  begins batches file missing same =
      let found = begins_at 1 batches file missing (append_cancel_left (header digest name) _ _ same) in (
        found.whole,
        found.later,
        found.tail,
        found.parts,
        subst (λ (f : List ℕ). Reads digest name f found.whole found.tail)
            (append_assoc (header digest name) (records digest name 1 found.whole) found.tail ∙ ap (λ (l : List ℕ). header digest name ++ l) (sym found.is))
            (reads_torn found.whole found.tail found.torn),
        found.torn,
      )

  pub damage : DamageIsSeen digest name
  damage batches later next bytes tail reads =
      let is : bytes ++ records digest name (length batches + 2) (next ∷ later) ≡ tail = append_cancel_left (journal_of digest name batches) _ _ reads.whole in (
        bytes,
        records digest name (length batches + 2) (next ∷ later),
        sym is,
        (sequence_bytes (length batches + 2), next, records digest name (length batches + 2 + 1) later, length-sequence_bytes (length batches + 2), refl),
      )
