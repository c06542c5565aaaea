-- The records of a log that is read by frames.
use Rattle.std.proofs.Common.{◌≡◌, ℕ, List, ◌∷◌, ◌++◌, ap, Option, None, Some}
use Rattle.std.specs.Prelude.{MatchOption, Vec}
use Rattle.std.specs.declared.alloc.Global.{Global}
use Rattle.sha2.specs.Sha256.{sha256}
use Rattle.journal.specs.Slip.{stuffed, HasNoEnd}
use Rattle.journal.specs.Record.{sequence_bytes, body, record_of}
use Rattle.journal.specs.Reading.{IsRecordFrame, StartsWithNumber, ContainsRecord}
use Rattle.journal.proofs.Framing.{other_frame, between_ends, after_end_torn, at_end, from_end, at_next_end, is_within}

module _ (name : List ℕ) where
  -- a frame that is decoded, after the END that some bytes begin with
  pub decoded : (number : ℕ) (bytes frame rest : List ℕ) (found : Option (Vec ℕ Global)) → bytes ≡ 192 ∷ (frame ++ 192 ∷ rest) → HasNoEnd frame
      → MatchOption found ((batch : List ℕ) → frame ≡ stuffed (body sha256 name (sequence_bytes number) batch) → ⊥) (λ batch. frame ≡ stuffed (body sha256 name (sequence_bytes number) batch.items))
      → MatchOption found (StartsWithNumber sha256 name number bytes → ⊥) (λ batch. bytes ≡ record_of sha256 name (sequence_bytes number) batch.items ++ rest)
  decoded number bytes frame rest None is none other = other_frame sha256 name number bytes frame rest is none other
  decoded number bytes frame rest (Some batch) is none same = between_ends sha256 name bytes frame rest (sequence_bytes number) batch.items is same

  -- the records in some bytes are those in the bytes from an END on
  pub record AreFrom (bytes rest : List ℕ) : Type 0 where
    pub there : ContainsRecord sha256 name bytes → ContainsRecord sha256 name (192 ∷ rest)
    pub here : ContainsRecord sha256 name (192 ∷ rest) → ContainsRecord sha256 name bytes

  -- from their first END
  pub from_first : (bytes first rest : List ℕ) → HasNoEnd first → bytes ≡ first ++ 192 ∷ rest → AreFrom bytes rest
  from_first bytes first rest none is = record { there = at_end sha256 name bytes first rest none is; here = from_end sha256 name bytes first rest is }

  -- from the END after a frame of no record
  pub from_next : (bytes before frame rest : List ℕ) → AreFrom bytes before → before ≡ frame ++ 192 ∷ rest → HasNoEnd frame → (IsRecordFrame sha256 name frame → ⊥) → AreFrom bytes rest
  from_next bytes before frame rest from is none other = record {
    there = λ has. at_next_end sha256 name before frame rest is none other (from.there has);
    here = λ has. from.here (from_end sha256 name (192 ∷ before) (192 ∷ frame) rest (ap (λ (l : List ℕ). 192 ∷ l) is) has);
  }

  -- a frame of a record is found
  pub found : (bytes before frame rest : List ℕ) → AreFrom bytes before → before ≡ frame ++ 192 ∷ rest → IsRecordFrame sha256 name frame → ContainsRecord sha256 name bytes
  found bytes before frame rest from is frames = from.here (is_within sha256 name before frame rest is frames)

  -- no END is left
  pub not_found : (bytes rest : List ℕ) → AreFrom bytes rest → HasNoEnd rest → ContainsRecord sha256 name bytes → ⊥
  not_found bytes rest from none has = after_end_torn sha256 name rest none (from.there has)
