-- Numbers that are read digit by digit, up to a cap.
use Rattle.std.proofs.Common.{◌≡◌, ℕ, zero, suc, ◌*◌, ◌≤◌, Bool, true, false, List, [], ◌∷◌, length, take, refl, ap, arith}
use Rattle.std.specs.List.{list_all, prefix_len}
use Rattle.symbols.specs.Format.{capped, colours_of}

-- a capped number that is within the cap is itself
pub capped-same : (n : ℕ) → n ≤ 1000 → capped n ≡ n
unfolding capped
capped-same n h = omega arith

-- the leading digits are digits
pub digits-front : (p : ℕ → Bool) (xs : List ℕ) → list_all p (take (prefix_len p xs) xs) ≡ true
digits-front p [] = refl
digits-front p (x ∷ xs) = go (digits-front p xs) (p x) refl
  where
    go : list_all p (take (prefix_len p xs) xs) ≡ true → (t : Bool) → p x ≡ t → list_all p (take (prefix_len p (x ∷ xs)) (x ∷ xs)) ≡ true
    go rest true h =
        let more : prefix_len p (x ∷ xs) ≡ suc (prefix_len p xs) = rw h (omega arith) in
        rw more (rw h rest)
    go rest false h =
        let some : prefix_len p (x ∷ xs) ≡ 0 = rw h in
        rw some

-- three bytes for each colour
pub colours-count : (n : ℕ) (bytes : List ℕ) → length bytes ≡ 3 * n → length (colours_of bytes) ≡ n
colours-count zero [] h = refl
colours-count zero (b ∷ bs) h = absurd (omega arith)
colours-count (suc n) (r ∷ g ∷ b ∷ bs) h = ap suc (colours-count n bs (omega arith))
colours-count (suc n) [] h = absurd (omega arith)
colours-count (suc n) (r ∷ []) h = absurd (omega arith)
colours-count (suc n) (r ∷ g ∷ []) h = absurd (omega arith)
