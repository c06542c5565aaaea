-- Names of journals, and their headers.
use Rattle.std.proofs.Common.{◌≡◌, ℕ, ◌<◌, ◌≤◌, ◌^◌, Bool, if◌then◌else◌, Option, None, Some, List, ◌++◌, length, refl, sym, ◌∙◌, ap, arith, append_assoc, length-append}
use Rattle.std.specs.Prelude.{IsSome}
use Rattle.std.specs.Int.{w64, from_be_bytes}
use Rattle.std.proofs.lemmas.Bool.{eq-eqb, ne_eqb}
use Rattle.std.proofs.lemmas.List.{append_cancel_left}
use Rattle.std.proofs.lemmas.Nat.{from_be_bytes-to_be_bytes_8}
use Rattle.journal.specs.Name.{IsBounded, name_of}
use Rattle.journal.specs.Record.{signature, compacted_signature, earlier_signature, sequence_bytes, header}
use Rattle.journal.specs.Law.{IsDigest, HasOneName, DamagedNameIsSeen, DamagedDigestIsSeen}
use Rattle.journal.specs.declared.name.Compaction.{Compaction}
use Rattle.journal.proofs.Frames.{length-sequence_bytes, same_begin}

-- a number is the one in its bytes
pub number_of : (number : ℕ) → number < 2 ^ 64 → from_be_bytes w64 (sequence_bytes number) ≡ number
unfolding sequence_bytes
number_of number small = from_be_bytes-to_be_bytes_8 number small

pub same_number : (n m : ℕ) → n < 2 ^ 64 → m < 2 ^ 64 → sequence_bytes n ≡ sequence_bytes m → n ≡ m
same_number n m small_n small_m same = sym (number_of n small_n) ∙ ap (λ (l : List ℕ). from_be_bytes w64 l) same ∙ number_of m small_m

-- the signatures have 18 bytes, and no two of them are equal
pub length-signature : length signature ≡ 18
unfolding signature
length-signature = refl

pub length-compacted_signature : length compacted_signature ≡ 18
unfolding compacted_signature
length-compacted_signature = refl

pub length-earlier_signature : length earlier_signature ≡ 18
unfolding earlier_signature
length-earlier_signature = refl

pub two_signatures : (x y : List ℕ) → signature ++ x ≡ compacted_signature ++ y → ⊥
unfolding signature compacted_signature
two_signatures x y same = let wrong : ◌≡◌ {A = ℕ} 49 51 = cc (same) in absurd (omega arith)

pub not_earlier : (x y : List ℕ) → signature ++ x ≡ earlier_signature ++ y → ⊥
unfolding signature earlier_signature
not_earlier x y same = let wrong : ◌≡◌ {A = ℕ} 49 50 = cc (same) in absurd (omega arith)

pub compacted_not_earlier : (x y : List ℕ) → compacted_signature ++ x ≡ earlier_signature ++ y → ⊥
unfolding compacted_signature earlier_signature
compacted_not_earlier x y same = let wrong : ◌≡◌ {A = ℕ} 51 50 = cc (same) in absurd (omega arith)

-- the name of a compacted journal has 48 bytes
pub length-name : (fingerprint : List ℕ) (compaction : Compaction) → length fingerprint ≡ 32 → length (name_of fingerprint (Some compaction)) ≡ 48
length-name fingerprint compaction long =
    omega (
      arith,
      long,
      length-append (sequence_bytes compaction.skipped) (sequence_bytes compaction.written ++ fingerprint),
      length-append (sequence_bytes compaction.written) fingerprint,
      length-sequence_bytes compaction.skipped,
      length-sequence_bytes compaction.written,
    )

-- two of them that are equal are equal in all their parts
pub same_parts : (a b : List ℕ) (c d : Compaction) → IsBounded (Some c) → IsBounded (Some d) → name_of a (Some c) ≡ name_of b (Some d) → (a ≡ b) × (c ≡ d)
same_parts a b c d bounded_c bounded_d same =
    let first = same_begin (sequence_bytes c.skipped) (sequence_bytes d.skipped) _ _ (length-sequence_bytes c.skipped ∙ sym (length-sequence_bytes d.skipped)) same in
    let second = same_begin (sequence_bytes c.written) (sequence_bytes d.written) a b (length-sequence_bytes c.written ∙ sym (length-sequence_bytes d.written)) first.1 in
    let skipped : c.skipped ≡ d.skipped = same_number c.skipped d.skipped bounded_c.0 bounded_d.0 first.0 in
    let written : c.written ≡ d.written = same_number c.written d.written bounded_c.1 bounded_d.1 second.0 in
    let with_skipped : ℕ → Compaction = λ n. record { skipped = n; written = c.written } in
    let with_written : ℕ → Compaction = λ n. record { skipped = d.skipped; written = n } in
    (second.1, ap with_skipped skipped ∙ ap with_written written)

module _ (digest : List ℕ → List ℕ) where
  -- the header of a journal that was never compacted
  pub header_plain : (fingerprint : List ℕ) → length fingerprint ≡ 32 → header digest fingerprint ≡ signature ++ fingerprint
  header_plain fingerprint long = ap (λ (b : Bool). if b then signature ++ fingerprint else compacted_signature ++ (fingerprint ++ digest fingerprint)) (eq-eqb (length fingerprint) 32 long)

  -- of one that was
  pub header_compacted : (name : List ℕ) → length name ≡ 48 → header digest name ≡ compacted_signature ++ (name ++ digest name)
  header_compacted name long = ap (λ (b : Bool). if b then signature ++ name else compacted_signature ++ (name ++ digest name)) (ne_eqb (length name) 32 (λ e. omega (arith, long)))

  pub header_of_compacted : (fingerprint : List ℕ) (compaction : Option Compaction) → length fingerprint ≡ 32 → IsSome compaction
      → header digest (name_of fingerprint compaction) ≡ compacted_signature ++ (name_of fingerprint compaction ++ digest (name_of fingerprint compaction))
  header_of_compacted fingerprint None long some = absurd (cc (some))
  header_of_compacted fingerprint (Some compaction) long some = header_compacted (name_of fingerprint (Some compaction)) (length-name fingerprint compaction long)

  -- a header and the bytes after it
  pub plain_rest : (fingerprint rest : List ℕ) → length fingerprint ≡ 32 → header digest fingerprint ++ rest ≡ signature ++ (fingerprint ++ rest)
  plain_rest fingerprint rest long = ap (λ (l : List ℕ). l ++ rest) (header_plain fingerprint long) ∙ append_assoc signature fingerprint rest

  pub compacted_rest : (name rest : List ℕ) → length name ≡ 48 → header digest name ++ rest ≡ compacted_signature ++ (name ++ (digest name ++ rest))
  compacted_rest name rest long =
      ap (λ (l : List ℕ). l ++ rest) (header_compacted name long) ∙ append_assoc compacted_signature (name ++ digest name) rest
      ∙ ap (λ (l : List ℕ). compacted_signature ++ l) (append_assoc name (digest name) rest)

  -- no header has more than 98 bytes
  pub short_header : IsDigest digest → (fingerprint : List ℕ) (compaction : Option Compaction) → length fingerprint ≡ 32 → length (header digest (name_of fingerprint compaction)) ≤ 98
  short_header is_digest fingerprint None long = omega (arith, ap length (header_plain fingerprint long), length-append signature fingerprint, length-signature, long)
  short_header is_digest fingerprint (Some compaction) long =
      let name = name_of fingerprint (Some compaction) in
      omega (arith, ap length (header_compacted name (length-name fingerprint compaction long)), length-append compacted_signature (name ++ digest name), length-compacted_signature, length-append name (digest name), length-name fingerprint compaction long, is_digest name)

  -- a journal that was compacted has no other signature
  plain_and_compacted : (a b : List ℕ) (d : Compaction) (s t : List ℕ) → length a ≡ 32 → length b ≡ 32 → header digest a ++ s ≡ header digest (name_of b (Some d)) ++ t → ⊥
  plain_and_compacted a b d s t long_a long_b same =
      two_signatures _ _ (sym (plain_rest a s long_a) ∙ same ∙ compacted_rest (name_of b (Some d)) t (length-name b d long_b))

  -- two names with their digests and what follows them
  same_sealed : IsDigest digest → (a b s t : List ℕ) → length a ≡ length b → a ++ (digest a ++ s) ≡ b ++ (digest b ++ t) → (a ≡ b) × (s ≡ t)
  same_sealed is_digest a b s t long same =
      let names = same_begin a b _ _ long same in
      (names.0, (same_begin (digest a) (digest b) s t (is_digest a ∙ sym (is_digest b)) names.1).1)

  -- two headers with what follows them are equal in all their parts
  pub one_name : IsDigest digest → HasOneName digest
  one_name is_digest a b None None s t long_a long_b bounded_c bounded_d same =
      let parts = same_begin a b s t (long_a ∙ sym long_b) (append_cancel_left signature _ _ (sym (plain_rest a s long_a) ∙ same ∙ plain_rest b t long_b)) in
      (parts.0, refl, parts.1)
  one_name is_digest a b None (Some d) s t long_a long_b bounded_c bounded_d same = absurd (plain_and_compacted a b d s t long_a long_b same)
  one_name is_digest a b (Some c) None s t long_a long_b bounded_c bounded_d same = absurd (plain_and_compacted b a c t s long_b long_a (sym same))
  one_name is_digest a b (Some c) (Some d) s t long_a long_b bounded_c bounded_d same =
      let long_c = length-name a c long_a in
      let long_d = length-name b d long_b in
      let sealed = same_sealed is_digest (name_of a (Some c)) (name_of b (Some d)) s t (long_c ∙ sym long_d)
      (append_cancel_left compacted_signature _ _ (sym (compacted_rest (name_of a (Some c)) s long_c) ∙ same ∙ compacted_rest (name_of b (Some d)) t long_d)) in
      let parts = same_parts a b c d bounded_c bounded_d sealed.0 in
      (parts.0, ap (λ (o : Compaction). Some o) parts.1, sealed.1)

  -- a header with other bytes in place of the name of a compacted journal, or of its digest
  pub damaged_name : IsDigest digest → DamagedNameIsSeen digest
  damaged_name is_digest name damaged fingerprint None s t long_name long other long_fingerprint same =
      absurd (two_signatures (fingerprint ++ t) _ (sym (plain_rest fingerprint t long_fingerprint) ∙ sym same))
  damaged_name is_digest name damaged fingerprint (Some c) s t long_name long other long_fingerprint same =
      let read = name_of fingerprint (Some c) in
      let long_read = length-name fingerprint c long_fingerprint in
      let names = same_begin damaged read _ _ (long ∙ sym long_read) (append_cancel_left compacted_signature _ _ (same ∙ compacted_rest read t long_read)) in
      let digests = same_begin (digest name) (digest read) s t (is_digest name ∙ sym (is_digest read)) names.1 in
      ap digest names.0 ∙ sym digests.0

  pub damaged_digest : IsDigest digest → DamagedDigestIsSeen digest
  damaged_digest is_digest name damaged fingerprint None s t long_name long other long_fingerprint same =
      two_signatures (fingerprint ++ t) _ (sym (plain_rest fingerprint t long_fingerprint) ∙ sym same)
  damaged_digest is_digest name damaged fingerprint (Some c) s t long_name long other long_fingerprint same =
      let read = name_of fingerprint (Some c) in
      let long_read = length-name fingerprint c long_fingerprint in
      let names = same_begin name read _ _ (long_name ∙ sym long_read) (append_cancel_left compacted_signature _ _ (same ∙ compacted_rest read t long_read)) in
      let digests = same_begin damaged (digest read) s t (long ∙ sym (is_digest read)) names.1 in
      other (digests.0 ∙ ap digest (sym names.0))
