-- Where the first byte comes that passes a test.
use Rattle.std.proofs.Common.{◌≡◌, ℕ, ◌+◌, Bool, true, false, not, cond, List, [], ◌∷◌, ◌++◌, length, take, All, refl, one-add, arith}
use Rattle.std.specs.Prelude.{IsFalse}
use Rattle.std.specs.List.{position_or_len}
use Rattle.std.proofs.lemmas.List.Elements.{All-nil, All-cons, All-head, All-tail}

fails-before_cons : (p : ℕ → Bool) (x : ℕ) (xs : List ℕ) (t : Bool) → p x ≡ t → All (λ c. IsFalse (p c)) (take (position_or_len p xs) xs) →
    All (λ c. IsFalse (p c)) (take (cond (not t) (1 + position_or_len p xs) 0) (x ∷ xs))
fails-before_cons p x xs true e others = All-nil (λ c. IsFalse (p c))
fails-before_cons p x xs false e others = rw one-add (All-cons (λ c. IsFalse (p c)) x (take (position_or_len p xs) xs) e others)

-- those before the first that passes fail
pub fails-before : (p : ℕ → Bool) (xs : List ℕ) → All (λ c. IsFalse (p c)) (take (position_or_len p xs) xs)
fails-before p [] = All-nil (λ c. IsFalse (p c))
fails-before p (x ∷ xs) = fails-before_cons p x xs (p x) refl (fails-before p xs)

-- where all bytes of a list fail, the first that passes comes after them
pub position_or_len-before : (p : ℕ → Bool) (xs ys : List ℕ) → All (λ c. IsFalse (p c)) xs → position_or_len p (xs ++ ys) ≡ length xs + position_or_len p ys
position_or_len-before p [] ys h = omega arith
position_or_len-before p (x ∷ xs) ys h =
    rw (All-head (λ c. IsFalse (p c)) x xs h, position_or_len-before p xs ys (All-tail (λ c. IsFalse (p c)) x xs h)) (omega arith)
