-- The first characters of a text.
use Rattle.std.proofs.Common.{◌≡◌, ◌∙◌, zero, suc, ℕ, ◌≤◌, ◌-◌, ◌+◌, List, [], ◌∷◌, ◌++◌, length, take, drop, sym, ap, arith, take_all}
use Rattle.std.proofs.Math.Seq.{take-append_seam}
use Rattle.std.proofs.lemmas.List.{take-append-drop, length-take, length-append, length-drop}
use Rattle.std.proofs.lemmas.Str.{IsCharBoundary-at_seam, chars-append, encodes-append, encodes-chars, length-le-encodes}
use Rattle.std.specs.Str.{IsCharBoundary, IsUtf8, chars, encode_utf8_all}
use Rattle.compose.specs.Labels.{first_characters}

-- a text with no more characters than that is its first characters
pub whole : (text : List ℕ) (most : ℕ) → IsUtf8 text → length (chars text) ≤ most → text ≡ first_characters most text
whole text most utf8 h = sym (ap encode_utf8_all (take_all most (chars text) h) ∙ encodes-chars text utf8)

-- one with no more bytes has no more characters
pub few-bytes : (text : List ℕ) (most : ℕ) → IsUtf8 text → length text ≤ most → length (chars text) ≤ most
few-bytes text most utf8 h =
    let bytes : length (encode_utf8_all (chars text)) ≡ length text = ap length (encodes-chars text utf8) in omega (arith, length-le-encodes (chars text), bytes)

-- nor has a text of which nothing remains after so many
pub none-left : (text : List ℕ) (count : ℕ) → [] ≡ drop count (chars text) → length (chars text) ≤ count
none-left text count e =
    let all : length (take count (chars text) ++ drop count (chars text)) ≡ length (chars text) = ap length (take-append-drop count (chars text)) in
    let rest : length (drop count (chars text)) ≡ 0 = ap length (sym e) in
    omega (arith, all, rest, length-append (take count (chars text)) (drop count (chars text)), length-take count (chars text))

-- a text is its first characters, and the rest
module _ (text rest : List ℕ) (count : ℕ) (utf8 : IsUtf8 text) (more : IsUtf8 rest) (left : chars rest ≡ drop count (chars text)) where
  pub parted : text ≡ first_characters count text ++ rest
  parted = sym (encodes-chars text utf8) ∙ ap encode_utf8_all (sym (take-append-drop count (chars text)))
      ∙ encodes-append (take count (chars text)) (drop count (chars text))
      ∙ ap (λ zs. first_characters count text ++ zs) (ap encode_utf8_all (sym left) ∙ encodes-chars rest more)

  pub parted-length : length (first_characters count text) + length rest ≡ length text
  parted-length = sym (ap length parted ∙ length-append (first_characters count text) rest)

  pub seam : length text - length rest ≡ length (first_characters count text)
  seam = omega (arith, parted-length)

  from-start : length text - length rest - 0 ≡ length (first_characters count text)
  from-start = omega (arith, parted-length)

  pub front : take (length text - length rest - 0) text ≡ first_characters count text
  front = ap (λ n. take n text) from-start ∙ (ap (take (length (first_characters count text))) parted ∙ take-append_seam (first_characters count text) rest)

  pub boundary : IsCharBoundary text (length text - length rest)
  boundary = rw seam (IsCharBoundary-at_seam text (first_characters count text) rest parted more)

-- what is cut off has no more characters than that
pub short : (text cut rest : List ℕ) (most : ℕ) → text ≡ cut ++ rest → IsUtf8 cut → chars rest ≡ drop most (chars text) → length (chars cut) ≤ most
short text cut rest most e utf8 left =
    let all : length (chars text) ≡ length (chars cut) + length (chars rest) = ap (λ (t : List ℕ). length (chars t)) e ∙ ap length (chars-append cut rest utf8) ∙ length-append (chars cut) (chars rest) in
    let some : length (chars rest) ≡ length (chars text) - most = ap length left ∙ length-drop most (chars text) in
    omega (arith, all, some)

-- one character more
next : (c : ℕ) (ys cs : List ℕ) (n : ℕ) → drop n cs ≡ c ∷ ys → ys ≡ drop (suc n) cs
next c ys [] zero e = absurd (cc)
next c ys [] (suc n) e = absurd (cc)
next c ys (x ∷ cs) zero e = sym (ap (drop 1) e)
next c ys (x ∷ cs) (suc n) e = next c ys cs n e

pub next-left : (c : ℕ) (xs ys cs : List ℕ) (n : ℕ) → xs ≡ drop n cs → xs ≡ c ∷ ys → ys ≡ drop (n + 1) cs
next-left c xs ys cs n left first = let turn : suc n ≡ n + 1 = omega arith in next c ys cs n (sym left ∙ first) ∙ ap (λ k. drop k cs) turn
