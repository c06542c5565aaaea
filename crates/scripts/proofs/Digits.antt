-- Lines of hexadecimal digits stand for the bytes from which they are written.
use Rattle.std.proofs.Common.{◌≡◌, ◌∙◌, ℕ, zero, suc, ◌+◌, ◌*◌, ◌/◌, ◌%◌, ◌<◌, ◌≤◌, ◌==◌, ◌&&◌, Bool, true, inl, inr, List, [], ◌∷◌, ◌++◌, length, take, drop, slice_index, Option, Some, None, unwrap_or, refl, sym, ap, arith, length-take, length-drop, take-append-drop}
use Rattle.std.specs.List.{All, concat}
use Rattle.std.proofs.lemmas.Bool.{and_parts, cases_lt, eqb-true}
use Rattle.std.proofs.lemmas.List.Elements.{All-head, All-tail}
use Rattle.hex.specs.Hex.{encode_lower, encode_with, lower_digits}
use Rattle.hex.proofs.HexLemmas.{length-encode_with}
use Rattle.operations.specs.declared.mime.Mime.TheVariants.{Png, Pixmap, ArbitraryMap}
use Rattle.scripts.specs.Transcript.{body_text, hex_line, hex_within}
use Rattle.scripts.specs.Digits.{digit_value, bytes_of, AreFullLines, lines_text}

-- whether the digit at a position of the sixteen has that position as its value
abbrev stands-for : ℕ → Bool
stands-for n = unwrap_or (digit_value (slice_index lower_digits n)) 99 == n

-- whether the digits at the first positions have
abbrev all-stand : ℕ → Bool
all-stand zero = true
all-stand (suc n) = stands-for n && all-stand n

all-stand-at : (n k : ℕ) → all-stand n ≡ true → k < n → stands-for k ≡ true
all-stand-at zero k h lt = absurd (omega arith)
all-stand-at (suc n) k h lt =
    let parts = and_parts (stands-for n) (all-stand n) h in
    elim (cases_lt k n) [
      | inl below ↦ all-stand-at n k parts.1 below
      | inr top ↦ let e : k ≡ n = omega arith in rw e parts.0
    ]

known : (o : Option ℕ) (n : ℕ) → n < 16 → unwrap_or o 99 ≡ n → o ≡ Some n
known (Some v) n lt e = ap Some e
known None n lt e = absurd (omega arith)

digit-back : (n : ℕ) → n < 16 → digit_value (slice_index lower_digits n) ≡ Some n
digit-back n lt = known (digit_value (slice_index lower_digits n)) n lt (eqb-true (unwrap_or (digit_value (slice_index lower_digits n)) 99) n (all-stand-at 16 n refl lt))

-- the digits of bytes have these bytes as their value
bytes-back : (bytes : List ℕ) → All (λ byte. byte < 256) bytes → bytes_of (encode_lower bytes) ≡ Some bytes
unfolding encode_with bytes_of
bytes-back [] below = refl
bytes-back (b ∷ bs) below =
    let fits : b < 256 = All-head (λ byte. byte < 256) b bs below in
    let high = digit-back (b / 16) (omega arith) in
    let low = digit-back (b % 16) (omega arith) in
    let whole : 16 * (b / 16) + b % 16 ≡ b = omega arith in
    rw (high, low, bytes-back bs (All-tail (λ byte. byte < 256) b bs below)) (ap (λ n. Some (n ∷ bs)) whole)

-- the digits of two lists, one after the other
encode-append : (xs ys : List ℕ) → encode_lower (xs ++ ys) ≡ encode_lower xs ++ encode_lower ys
unfolding encode_with
encode-append [] ys = refl
encode-append (b ∷ bs) ys = ap (λ l. slice_index lower_digits (b / 16) ∷ slice_index lower_digits (b % 16) ∷ l) (encode-append bs ys)

-- the lines of digits, within so many
unfoldable digit-lines : ℕ → List ℕ → List (List ℕ)
digit-lines n [] = []
digit-lines zero (b ∷ bs) = []
digit-lines (suc n) (b ∷ bs) = encode_lower (take 32 (b ∷ bs)) ∷ digit-lines n (drop 32 (b ∷ bs))

lines-written : (n : ℕ) (bytes : List ℕ) → hex_within n bytes ≡ lines_text (digit-lines n bytes)
unfolding hex_within digit-lines
lines-written n [] = refl
lines-written zero (b ∷ bs) = refl
lines-written (suc n) (b ∷ bs) = ap (λ text. hex_line (take 32 (b ∷ bs)) ++ text) (lines-written n (drop 32 (b ∷ bs)))

lines-joined : (n : ℕ) (bytes : List ℕ) → length bytes ≤ n → concat (digit-lines n bytes) ≡ encode_lower bytes
unfolding digit-lines encode_with
lines-joined n [] h = refl
lines-joined zero (b ∷ bs) h = absurd (omega arith)
lines-joined (suc n) (b ∷ bs) h =
    ap (λ l. encode_lower (take 32 (b ∷ bs)) ++ l) (lines-joined n (drop 32 (b ∷ bs)) (omega (arith, length-drop 32 (b ∷ bs))))
    ∙ sym (encode-append (take 32 (b ∷ bs)) (drop 32 (b ∷ bs))) ∙ ap (λ l. encode_lower l) (take-append-drop 32 (b ∷ bs))

-- a line before others, which has 64 digits where there are others
full-step : (line : List ℕ) (n : ℕ) (rest : List ℕ) → length rest ≤ n → 0 < length line → length line ≤ 64 → (0 < length rest → length line ≡ 64) →
    AreFullLines (digit-lines n rest) → AreFullLines (line ∷ digit-lines n rest)
unfolding digit-lines
full-step line n [] h some most full others = (some, most)
full-step line zero (r ∷ rs) h some most full others = absurd (omega arith)
full-step line (suc n) (r ∷ rs) h some most full others = (full (omega arith), others)

lines-full : (n : ℕ) (bytes : List ℕ) → length bytes ≤ n → AreFullLines (digit-lines n bytes)
unfolding digit-lines
lines-full n [] h = tt
lines-full zero (b ∷ bs) h = absurd (omega arith)
lines-full (suc n) (b ∷ bs) h =
    let front = take 32 (b ∷ bs) in
    let digits = length-encode_with lower_digits front in
    let len = length-take 32 (b ∷ bs) in
    let rest = length-drop 32 (b ∷ bs) in
    full-step (encode_lower front) n (drop 32 (b ∷ bs)) (omega (arith, rest)) (omega (arith, digits, len)) (omega (arith, digits, len))
    (λ others. omega (arith, digits, len, rest, others)) (lines-full n (drop 32 (b ∷ bs)) (omega (arith, rest)))

pub digits-stand : (body : List ℕ) → All (λ byte. byte < 256) body →
    (lines : List (List ℕ)) × (body_text Png body ≡ lines_text lines) × (body_text Pixmap body ≡ lines_text lines) × (body_text ArbitraryMap body ≡ lines_text lines) × AreFullLines lines × (bytes_of (concat lines) ≡ Some body)
digits-stand body below =
    let enough : length body ≤ length body = omega arith in (
      digit-lines (length body) body,
      lines-written (length body) body,
      lines-written (length body) body,
      lines-written (length body) body,
      lines-full (length body) body enough,
      ap bytes_of (lines-joined (length body) body enough) ∙ bytes-back body below,
    )
