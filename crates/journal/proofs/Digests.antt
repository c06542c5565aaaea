-- The contents of a frame that is a record.
use Rattle.std.proofs.Common.{◌≡◌, ℕ, ◌+◌, ◌-◌, ◌<◌, List, ◌++◌, length, take, drop, refl, sym, ◌∙◌, ap, arith, append_assoc, length-append}
use Rattle.std.proofs.lemmas.List.{take_at, drop_at}
use Rattle.journal.specs.Slip.{stuffed}
use Rattle.journal.specs.Record.{body}
use Rattle.journal.specs.Law.{IsDigest}
use Rattle.journal.proofs.Stuffing.{same_stuffed}

module _ (digest : List ℕ → List ℕ) (name : List ℕ) (is_digest : IsDigest digest) where
  pub length-body : (sequence batch : List ℕ) → length (body digest name sequence batch) ≡ length sequence + length batch + 32
  length-body sequence batch =
      let record_digest = digest (name ++ (sequence ++ batch)) in
      omega (arith, length-append sequence (batch ++ record_digest), length-append batch record_digest, is_digest (name ++ (sequence ++ batch)))

  -- it has at least 40 bytes
  pub too_short : (frame decoded sequence batch : List ℕ) → frame ≡ stuffed decoded → frame ≡ stuffed (body digest name sequence batch) → length sequence ≡ 8 → length decoded < 40 → ⊥
  too_short frame decoded sequence batch is same long short =
      let whole : decoded ≡ body digest name sequence batch = same_stuffed decoded (body digest name sequence batch) (sym is ∙ same) in
      absurd (omega (arith, ap length whole, length-body sequence batch))

  -- it ends with the digest of the bytes before that
  pub ends_with_digest : (frame decoded sequence batch : List ℕ) → frame ≡ stuffed decoded → frame ≡ stuffed (body digest name sequence batch)
      → drop (length decoded - 32) decoded ≡ digest (name ++ take (length decoded - 32) decoded)
  ends_with_digest frame decoded sequence batch is same =
      let whole : decoded ≡ body digest name sequence batch = same_stuffed decoded (body digest name sequence batch) (sym is ∙ same) in
      let record_digest = digest (name ++ (sequence ++ batch)) in
      let split : decoded ≡ sequence ++ batch ++ record_digest = whole ∙ sym (append_assoc sequence batch record_digest) in
      let long : length decoded - 32 ≡ length (sequence ++ batch) = omega (arith, ap length whole, length-body sequence batch, length-append sequence batch) in
      let back : drop (length decoded - 32) decoded ≡ record_digest = ap (λ (n : ℕ). drop n decoded) long ∙ ap (λ (l : List ℕ). drop (length (sequence ++ batch)) l) split ∙ drop_at (sequence ++ batch) record_digest (length (sequence ++ batch)) refl in
      let front : take (length decoded - 32) decoded ≡ sequence ++ batch = ap (λ (n : ℕ). take n decoded) long ∙ ap (λ (l : List ℕ). take (length (sequence ++ batch)) l) split ∙ take_at (sequence ++ batch) record_digest (length (sequence ++ batch)) refl in
      back ∙ ap (λ (l : List ℕ). digest (name ++ l)) (sym front)
