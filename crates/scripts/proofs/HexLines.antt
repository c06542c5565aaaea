-- Lines of hexadecimal: a larger count changes nothing.
use Rattle.std.proofs.lemmas.Bool.{cases_lt}
use Rattle.std.proofs.Common.{inl, inr, take_all, drop_of_length-le, ◌≡◌, ◌∙◌, ℕ, zero, suc, ◌≤◌, min, List, [], ◌∷◌, ◌++◌, length, take, drop, refl, ap, arith, length-drop}
use Rattle.scripts.specs.Transcript.{hex_line, hex_within, hex_lines}

-- a count of the bytes is enough
pub hex_within-enough : (n m : ℕ) (bytes : List ℕ) → length bytes ≤ n → length bytes ≤ m → hex_within n bytes ≡ hex_within m bytes
unfolding hex_within
hex_within-enough n m [] h k = refl
hex_within-enough zero m (b ∷ bs) h k = absurd (omega arith)
hex_within-enough (suc n) zero (b ∷ bs) h k = absurd (omega arith)
hex_within-enough (suc n) (suc m) (b ∷ bs) h k =
    ap (λ text. hex_line (take 32 (b ∷ bs)) ++ text)
    (hex_within-enough n m (drop 32 (b ∷ bs)) (omega (arith, length-drop 32 (b ∷ bs))) (omega (arith, length-drop 32 (b ∷ bs))))

-- the lines of some bytes are their first line and the lines of the rest
pub hex_lines-split : (bytes : List ℕ) → 1 ≤ length bytes → hex_lines bytes ≡ hex_line (take 32 bytes) ++ hex_lines (drop 32 bytes)
unfolding hex_within
hex_lines-split [] h = absurd (omega arith)
hex_lines-split (b ∷ bs) h =
    ap (λ text. hex_line (take 32 (b ∷ bs)) ++ text)
    (hex_within-enough (length bs) (length (drop 32 (b ∷ bs))) (drop 32 (b ∷ bs)) (omega (arith, length-drop 32 (b ∷ bs))) (omega arith))

-- the first line, cut off as the program does
pub hex_lines-cut : (rest line others : List ℕ) (n : ℕ) → 1 ≤ length rest → n ≡ min (length rest) 32 → line ≡ take n rest → others ≡ drop n rest →
    hex_lines rest ≡ hex_line line ++ hex_lines others
hex_lines-cut rest line others n some is front back = elim (cases_lt (length rest) 32) [
  | inl short ↦ (let whole : n ≡ length rest = omega arith in
      hex_lines-split rest some
      ∙ rw (front, back, whole, take_all 32 rest (omega arith), take_all (length rest) rest (omega arith), drop_of_length-le rest {i = 32} (omega arith), drop_of_length-le rest {i = length rest} (omega arith)))
  | inr long ↦ (let full : n ≡ 32 = omega arith in hex_lines-split rest some ∙ rw (front, back, full))
]
