-- The half chords of a disc, one after another.
use Rattle.std.proofs.Common.{◌≡◌, ◌∙◌, ℕ, ◌+◌, ◌<◌, ◌≤◌, List, [], ◌∷◌, ◌++◌, length, get_or, sym, ap, subst, arith, ⊎_elim}
use Rattle.std.proofs.lemmas.Bool.{cases_lt}
use Rattle.std.proofs.lemmas.List.{get_or_append_left, length-append}
use Rattle.labelink.specs.Disc.{IsHalfChord}
use Rattle.std.proofs.Math.Seq.{get_or-append_seam}

-- the first so many
pub record HasHalfChords (r n : ℕ) (halves : List ℕ) : Type 0 where
  pub count : length halves ≡ n
  pub all : (down : ℕ) → down < n → IsHalfChord r down (get_or halves down 0)

pub half-chords-next : (r n : ℕ) (halves : List ℕ) (x : ℕ) → HasHalfChords r n halves → IsHalfChord r n x → HasHalfChords r (n + 1) (halves ++ x ∷ [])
half-chords-next r n halves x has is = record {
  count = omega (arith, length-append halves (x ∷ []), has.count);
  all = λ k h. ⊎_elim
      (λ (less : k < n). subst (λ z. IsHalfChord r k z) (sym (get_or_append_left halves (x ∷ []) 0 k (omega (arith, less, has.count)))) (has.all k less))
      (λ (more : n ≤ k). let same : k ≡ n = omega (arith, more, h) in
      let at : get_or (halves ++ x ∷ []) n 0 ≡ x = ap (λ m. get_or (halves ++ x ∷ []) m 0) (sym has.count) ∙ get_or-append_seam halves x [] 0 in
      rw same (subst (λ z. IsHalfChord r n z) (sym at) is))
      (cases_lt k n);
}
