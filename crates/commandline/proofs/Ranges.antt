-- Options that lie in their ranges.
use Rattle.std.proofs.Common.{◌≡◌, ℕ, ◌+◌, ◌^◌, ◌<◌, pos, to_z, w64, List, [], ◌∷◌, All, length, map, take, arith}
use Rattle.std.proofs.lemmas.Int.{ints}
use Rattle.std.proofs.Math.ListN.{get_or}
use Rattle.std.proofs.lemmas.List.{map-append, take_more}
use Rattle.std.proofs.lemmas.List.Elements.{All-append, All-cons, All-nil}

-- a property of the first elements of a list and of the next holds of one more element
pub all-more : {X Y : Type 0} (P : Y → Type 0) (f : X → Y) (xs : List X) (i : ℕ) (d : X) → i < length xs → All P (map f (take i xs)) → P (f (get_or xs i d)) → All P (map f (take (i + 1) xs))
all-more P f xs i d h before one =
    rw (take_more xs i d h, map-append f (take i xs) (get_or xs i d ∷ [])) (All-append P (map f (take i xs)) (f (get_or xs i d) ∷ []) before (All-cons P (f (get_or xs i d)) [] one (All-nil P)))

-- a number of 32 bits is the same number as an i64
pub word-small : (n : ℕ) → n < 2 ^ 32 → to_z w64 n ≡ pos n
word-small n h = omega (arith, ints)
