-- What is left of a table after a byte order mark at its beginning.
use Rattle.std.proofs.Common.{◌≡◌, ℕ, ◌-◌, ◌≤◌, true, false, List, [], ◌∷◌, length, take, drop, refl, arith}
use Rattle.std.specs.Prelude.{slice_index_or}
use Rattle.std.proofs.Math.Seq.{take-length}
use Rattle.csv.specs.Reading.{is_bom, strip_bom}

-- the bytes after a mark
pub after-mark : (bytes : List ℕ) → 3 ≤ length bytes → is_bom (slice_index_or bytes 0 0) (slice_index_or bytes 1 0) (slice_index_or bytes 2 0) ≡ true →
    take (length bytes - 3) (drop 3 bytes) ≡ strip_bom bytes
unfolding strip_bom
after-mark [] room mark = absurd (omega arith)
after-mark (a ∷ []) room mark = absurd (omega arith)
after-mark (a ∷ (b ∷ [])) room mark = absurd (omega arith)
after-mark (a ∷ (b ∷ (c ∷ rest))) room mark =
    let left : length (a ∷ (b ∷ (c ∷ rest))) - 3 ≡ length rest = omega arith in
    rw (left, take-length, mark) refl

-- bytes that begin with no mark
pub without-mark : (bytes : List ℕ) → 3 ≤ length bytes → is_bom (slice_index_or bytes 0 0) (slice_index_or bytes 1 0) (slice_index_or bytes 2 0) ≡ false → bytes ≡ strip_bom bytes
unfolding strip_bom
without-mark [] room mark = refl
without-mark (a ∷ []) room mark = refl
without-mark (a ∷ (b ∷ [])) room mark = refl
without-mark (a ∷ (b ∷ (c ∷ rest))) room mark = rw mark refl
