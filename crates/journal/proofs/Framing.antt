-- The records of a file that is read by frames.
use Rattle.std.proofs.Common.{◌≡◌, ◌≢◌, ℕ, List, [], ◌∷◌, ◌++◌, refl, sym, ◌∙◌, ap, subst, append_assoc}
use Rattle.journal.specs.Slip.{stuffed, HasNoEnd}
use Rattle.journal.specs.Record.{sequence_bytes, body, record_of}
use Rattle.journal.specs.Reading.{IsRecordFrame, StartsWithNumber, StartsWithRecord, ContainsRecord}
use Rattle.journal.proofs.Stuffing.{stuffed_no_end, same_front}
use Rattle.journal.proofs.Frames.{Later, frame_before, first_end, record_is, no_end_torn, short_torn, within_front, number_is_record}
use Rattle.journal.proofs.Frames.CutShort.{First}
use Rattle.journal.proofs.Frames.Later.{Same, Further}

module _ (digest : List ℕ → List ℕ) (name : List ℕ) where
  -- without an END no record begins
  pub unended : (number : ℕ) (bytes : List ℕ) → HasNoEnd bytes → StartsWithNumber digest name number bytes → ⊥
  unended number bytes none has = no_end_torn digest name bytes none (within_front digest name bytes (number_is_record digest name number bytes has))

  -- nor with other bytes before the first END
  pub not_at_end : (number : ℕ) (bytes front rest : List ℕ) → front ≢ [] → HasNoEnd front → bytes ≡ front ++ 192 ∷ rest → StartsWithNumber digest name number bytes → ⊥
  not_at_end number bytes [] rest some none is has = some refl
  not_at_end number bytes (b ∷ front) rest some none is has =
      none.0 (let end : b ≡ 192 = cc (is, record_is digest name bytes (number_is_record digest name number bytes has)) in end)

  -- nor with one END
  pub after_end_torn : (rest : List ℕ) → HasNoEnd rest → ContainsRecord digest name (192 ∷ rest) → ⊥
  after_end_torn rest none has = short_torn digest name (192 ∷ rest) (First rest refl none) has

  pub half : (number : ℕ) (bytes rest : List ℕ) → bytes ≡ 192 ∷ rest → HasNoEnd rest → StartsWithNumber digest name number bytes → ⊥
  half number bytes rest is none has =
      after_end_torn rest none (within_front digest name (192 ∷ rest) (subst (StartsWithRecord digest name) is (number_is_record digest name number bytes has)))

  -- a record has the frame after its first END
  frame_of : (frame rest sequence batch more : List ℕ) → HasNoEnd frame → 192 ∷ (frame ++ 192 ∷ rest) ≡ record_of digest name sequence batch ++ more
      → frame ≡ stuffed (body digest name sequence batch)
  frame_of frame rest sequence batch more none is =
      let decoded = body digest name sequence batch in
      let whole : 192 ∷ (frame ++ 192 ∷ rest) ≡ 192 ∷ (stuffed decoded ++ 192 ∷ more) = is ∙ frame_before decoded more in
      (same_front frame (stuffed decoded) rest more none (stuffed_no_end decoded) (cc (whole))).0

  pub other_frame : (number : ℕ) (bytes frame rest : List ℕ) → bytes ≡ 192 ∷ (frame ++ 192 ∷ rest) → HasNoEnd frame
      → ((batch : List ℕ) → frame ≡ stuffed (body digest name (sequence_bytes number) batch) → ⊥) → StartsWithNumber digest name number bytes → ⊥
  other_frame number bytes frame rest is none other has = other has.0 (frame_of frame rest (sequence_bytes number) has.0 has.1 none (sym is ∙ has.2))

  -- a frame of a record between two ENDs is the record
  pub between_ends : (bytes frame rest sequence batch : List ℕ) → bytes ≡ 192 ∷ (frame ++ 192 ∷ rest) → frame ≡ stuffed (body digest name sequence batch) → bytes ≡ record_of digest name sequence batch ++ rest
  between_ends bytes frame rest sequence batch is same =
      is ∙ ap (λ (l : List ℕ). 192 ∷ (l ++ 192 ∷ rest)) same ∙ sym (frame_before (body digest name sequence batch) rest)

  -- a record in some bytes is at their first END or after it
  pub at_end : (bytes first rest : List ℕ) → HasNoEnd first → bytes ≡ first ++ 192 ∷ rest → ContainsRecord digest name bytes → ContainsRecord digest name (192 ∷ rest)
  at_end bytes first rest none is (front, bs, split, has) =
      at (first_end first front rest more none (sym is ∙ (split ∙ ap (λ (l : List ℕ). front ++ l) (record_is digest name bs has))))
    where
      more : List ℕ
      more = stuffed (body digest name has.0 has.1) ++ 192 ∷ has.2

      at : Later front more first rest → ContainsRecord digest name (192 ∷ rest)
      at (Same same) = ([], 192 ∷ rest, refl, subst (StartsWithRecord digest name) (record_is digest name bs has ∙ ap (λ (l : List ℕ). 192 ∷ l) same) has)
      at (Further between same) = (192 ∷ between, bs, ap (λ (l : List ℕ). 192 ∷ l) same ∙ ap (λ (l : List ℕ). 192 ∷ (between ++ l)) (sym (record_is digest name bs has)), has)

  pub from_end : (bytes first rest : List ℕ) → bytes ≡ first ++ 192 ∷ rest → ContainsRecord digest name (192 ∷ rest) → ContainsRecord digest name bytes
  from_end bytes first rest is (front, bs, split, has) =
      (first ++ front, bs, is ∙ ap (λ (l : List ℕ). first ++ l) split ∙ sym (append_assoc first front bs), has)

  -- after a frame of no record it is at the next END or after that
  pub at_next_end : (bytes frame rest : List ℕ) → bytes ≡ frame ++ 192 ∷ rest → HasNoEnd frame → (IsRecordFrame digest name frame → ⊥) → ContainsRecord digest name (192 ∷ bytes) → ContainsRecord digest name (192 ∷ rest)
  at_next_end bytes frame rest is none other ([], bs, split, has) =
      absurd (other (has.0, has.1, has.3, frame_of frame rest has.0 has.1 has.2 none (ap (λ (l : List ℕ). 192 ∷ l) (sym is) ∙ split ∙ has.4)))
  at_next_end bytes frame rest is none other (f ∷ front, bs, split, has) = at_end bytes frame rest none is (front, bs, cc (split), has)

  -- a frame of a record after an END is a record
  pub is_within : (bytes frame rest : List ℕ) → bytes ≡ frame ++ 192 ∷ rest → IsRecordFrame digest name frame → ContainsRecord digest name (192 ∷ bytes)
  is_within bytes frame rest is (sequence, batch, long, same) =
      within_front digest name (192 ∷ bytes) (sequence, batch, rest, long, between_ends (192 ∷ bytes) frame rest sequence batch (ap (λ (l : List ℕ). 192 ∷ l) is) same)
