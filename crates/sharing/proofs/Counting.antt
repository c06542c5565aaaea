-- What each batch counts is counted by as many as there are.
use Rattle.std.proofs.Common.{◌≡◌, ℕ, ◌+◌, List, [], ◌∷◌, length, Option, None, Some, refl, ap, arith}
use Rattle.std.specs.Prelude.{option_and_then}
use Rattle.sharing.specs.Sharing.{after}

counts_next : {S B : Type 0} (batch : S → B → Option S) (count : S → ℕ) → ((s t : S) (b : B) → batch s b ≡ Some t → count t ≡ count s + 1)
    → (s t : S) (b : B) (n : ℕ) (f : S → Option S) (o : Option S) → batch s b ≡ o → ((u : S) → f u ≡ Some t → count t ≡ count u + n)
    → option_and_then f o ≡ Some t → count t ≡ count s + (n + 1)
counts_next batch count one s t b n f None is next e = absurd (cc e)
counts_next batch count one s t b n f (Some u) is next e = omega (arith, one s u b is, next u e)

-- where each batch that is accepted adds one, a list of them adds as many as it has
pub after_counts : {S B : Type 0} (batch : S → B → Option S) (count : S → ℕ) → ((s t : S) (b : B) → batch s b ≡ Some t → count t ≡ count s + 1)
    → (s t : S) (bs : List B) → after batch s bs ≡ Some t → count t ≡ count s + length bs
after_counts batch count one s t [] e = let same : s ≡ t = cc e in omega (arith, ap count same)
after_counts batch count one s t (b ∷ bs) e =
    omega (arith, counts_next batch count one s t b (length bs) (λ u. after batch u bs) (batch s b) refl (λ u e'. after_counts batch count one u t bs e') e)
