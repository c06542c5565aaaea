-- The chords of a disc.
use Rattle.std.proofs.Common.{◌≡◌, ◌∙◌, ℕ, ◌+◌, ◌*◌, ◌^◌, ◌<◌, ◌≤◌, List, [], ◌∷◌, ◌++◌, length, get_or, sym, ap, subst, arith, ⊎_elim}
use Rattle.std.proofs.Math.Seq.{get_or-append_seam}
use Rattle.std.proofs.lemmas.Bool.{cases_lt}
use Rattle.std.proofs.lemmas.Int.{ints}
use Rattle.std.proofs.lemmas.List.{get_or_append_left, length-append}
use Rattle.std.specs.Int.RustNames.{unsigned_abs}
use lib.IntN.{ℤ, pos, negsuc, ◌-ℤ◌}
use lib.Signed.{◌<ℤ◌, ◌≤ℤ◌}
use Rattle.geom.specs.Range.{IsBelow}
use Rattle.strokes.specs.Chord.{AreChords}
use Rattle.strokes.specs.Round.{IsRoot, square, square_of_half}
use Rattle.strokes.proofs.Rounded.{square-order}

-- the half chords of so many rows
pub record HasHalves (w n : ℕ) (halves : List ℤ) : Type 0 where
  pub count : length halves ≡ n
  pub all : (k : ℕ) → k < n → IsRoot (square_of_half w -ℤ square (pos k)) (get_or halves k (pos 0))
  pub range : (k : ℕ) → k < n → IsBelow (2 ^ 61) (get_or halves k (pos 0))

pub halves-next : (w n : ℕ) (halves : List ℤ) (x : ℤ) → HasHalves w n halves → IsRoot (square_of_half w -ℤ square (pos n)) x → IsBelow (2 ^ 61) x → HasHalves w (n + 1) (halves ++ x ∷ [])
halves-next w n halves x has root below = record {
  count = omega (arith, length-append halves (x ∷ []), has.count);
  all = λ k h. pick (λ k z. IsRoot (square_of_half w -ℤ square (pos k)) z) has.all root k h;
  range = λ k h. pick (λ k z. IsBelow (2 ^ 61) z) has.range below k h;
}
  where
    pick : (P : ℕ → ℤ → Type 0) → ((k : ℕ) → k < n → P k (get_or halves k (pos 0))) → P n x → (k : ℕ) → k < n + 1 → P k (get_or (halves ++ x ∷ []) k (pos 0))
    pick P f p k h = ⊎_elim
        (λ (less : k < n). subst (λ z. P k z) (sym (get_or_append_left halves (x ∷ []) (pos 0) k (omega (arith, has.count)))) (f k less))
        (λ (more : n ≤ k). let same : k ≡ n = omega arith in
        let at : get_or (halves ++ x ∷ []) n (pos 0) ≡ x = ap (λ m. get_or (halves ++ x ∷ []) m (pos 0)) (sym has.count) ∙ get_or-append_seam halves x [] (pos 0) in
        rw same (subst (λ z. P n z) (sym at) p))
        (cases_lt k n)

-- the square of a number is that of its size
pub square-abs : (z : ℤ) → square (pos (unsigned_abs z)) ≡ square z
square-abs (pos n) = omega (arith, ints)
square-abs (negsuc n) = omega (arith, ints)

-- a row of a disc, at most half a width from its centre
pub within-half : (w d : ℕ) → d ≤ 8 * w → pos 0 ≤ℤ (square_of_half w -ℤ square (pos d))
within-half w d h = omega (arith, ints, square-order (pos (8 * w)) (pos d) (omega (arith, ints)) (omega (arith, ints, h)))

-- and one that is further away
pub past-half : (w k : ℕ) → 8 * w + 1 ≤ k → (square_of_half w -ℤ square (pos k)) <ℤ pos 0
past-half w k h = omega (arith, ints, square-order (pos k) (pos (8 * w + 1)) (omega (arith, ints)) (omega (arith, ints, h)))

-- the half chord of a row
pub row-chord : (w k : ℕ) (halves : List ℤ) (d : ℤ) → AreChords w halves → k ≡ unsigned_abs d → k < length halves → IsRoot (square_of_half w -ℤ square d) (get_or halves k (pos 0))
row-chord w k halves d are same less =
    let square_is : square (pos k) ≡ square d = ap (λ n. square (pos n)) same ∙ square-abs d in
    subst (λ z. IsRoot (square_of_half w -ℤ z) (get_or halves k (pos 0))) square_is (are.all k less)

-- a row that has none
pub no-row-chord : (w k : ℕ) (halves : List ℤ) (d : ℤ) → AreChords w halves → k ≡ unsigned_abs d → length halves ≤ k → (square_of_half w -ℤ square d) <ℤ pos 0
no-row-chord w k halves d are same more =
    let square_is : square (pos k) ≡ square d = ap (λ n. square (pos n)) same ∙ square-abs d in
    subst (λ z. (square_of_half w -ℤ z) <ℤ pos 0) square_is (past-half w k (omega (arith, are.count, more)))
