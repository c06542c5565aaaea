-- Lines that are put one after the other.
use Rattle.std.proofs.lemmas.Bool.{cases_lt}
use Rattle.std.proofs.Common.{inl, inr, ◌≡◌, ◌∙◌, ℕ, zero, suc, min, ◌+◌, ◌-◌, ◌*◌, ◌≤◌, List, [], ◌∷◌, ◌++◌, length, take, drop, refl, sym, ap, arith, append_assoc, append-nil, length-append, length-take, length-drop, take_all}
use Rattle.std.proofs.lemmas.List.{drop_all, drop-take, drop-drop, take-take}
use Rattle.std.proofs.Math.Seq.{take-append-add}
use Rattle.scripts.specs.Transcript.{hex_line, hex_lines, hex_within}
use Rattle.scripts.proofs.HexLines.{hex_lines-split}
use borrow.Rule.Slice.PartMut.{put_mid}

-- a buffer that is filled from a position to its end is the part before the position, and the filling
pub put-whole : (a : ℕ) (xs ys : List ℕ) → put_mid a (length xs - a) xs ys ≡ take a xs ++ ys
put-whole a xs ys =
    ap (λ l. take a xs ++ (ys ++ l)) (drop_all (length xs - a) (drop a xs) (omega (arith, length-drop a xs))) ∙ ap (λ l. take a xs ++ l) (append-nil ys)

pub length-put : (a : ℕ) (xs ys : List ℕ) → a ≤ length xs → length ys ≡ length xs - a → length (put_mid a (length xs - a) xs ys) ≡ length xs
length-put a xs ys fits count = ap length (put-whole a xs ys) ∙ omega (arith, fits, count, length-append (take a xs) ys, length-take a xs)

-- the bytes that were put after the first bytes of a buffer
pub put-behind : (a n : ℕ) (xs ys : List ℕ) → a ≤ length xs → take (a + n) (put_mid a (length xs - a) xs ys) ≡ take a xs ++ take n ys
put-behind a n xs ys fits =
    let count : length (take a xs) ≡ a = omega (arith, fits, length-take a xs) in
    ap (take (a + n)) (put-whole a xs ys) ∙ ap (λ k. take (k + n) (take a xs ++ ys)) (sym count) ∙ take-append-add (take a xs) ys n

-- the lines of some bytes are those of so many whole lines, and those of the rest
pub lines-block : (n : ℕ) (bytes : List ℕ) → hex_lines (take (32 * n) bytes) ++ hex_lines (drop (32 * n) bytes) ≡ hex_lines bytes
unfolding hex_within
lines-block zero bytes = refl
lines-block (suc n) [] = rw (take_all {A = ℕ} (32 * suc n) [] (omega arith), drop_all {X = ℕ} (32 * suc n) [] (omega arith)) refl
lines-block (suc n) (b ∷ bs) =
    let more : 32 * suc n ≡ 32 + 32 * n = omega arith in
    rw more
    (ap (λ text. text ++ hex_lines (drop (32 + 32 * n) (b ∷ bs)))
    (hex_lines-split (take (32 + 32 * n) (b ∷ bs)) (omega (arith, length-take (32 + 32 * n) (b ∷ bs)))
    ∙ ap (λ front. hex_line front ++ hex_lines (drop 32 (take (32 + 32 * n) (b ∷ bs)))) (take-take 32 (32 + 32 * n) (b ∷ bs) (omega arith))
    ∙ ap (λ rest. hex_line (take 32 (b ∷ bs)) ++ hex_lines rest) (drop-take 32 (32 * n) (b ∷ bs)))
    ∙ append_assoc (hex_line (take 32 (b ∷ bs))) _ _
    ∙ ap (λ rest. hex_line (take 32 (b ∷ bs)) ++ (hex_lines (take (32 * n) (drop 32 (b ∷ bs))) ++ hex_lines rest)) (sym (drop-drop (32 * n) 32 (b ∷ bs)))
    ∙ ap (λ text. hex_line (take 32 (b ∷ bs)) ++ text) (lines-block n (drop 32 (b ∷ bs)))
    ∙ sym (hex_lines-split (b ∷ bs) (omega arith)))

-- a block, cut off as the program does: whole lines, or all bytes left
pub lines-cut : (rest block others : List ℕ) (n : ℕ) → n ≡ min (length rest) 2016 → block ≡ take n rest → others ≡ drop n rest →
    hex_lines rest ≡ hex_lines block ++ hex_lines others
unfolding hex_within
lines-cut rest block others n is front back = elim (cases_lt (length rest) 2016) [
  | inl short ↦ (let whole : n ≡ length rest = omega arith in
      rw (front, back, whole, take_all (length rest) rest (omega arith), drop_all (length rest) rest (omega arith), append-nil) refl)
  | inr long ↦ (let full : n ≡ 2016 = omega arith in rw (front, back, full) (sym (lines-block 63 rest)))
]
