-- Numbers in a document have no markup, and no blank.
use Rattle.std.proofs.Common.{◌≡◌, ℕ, suc, zero, ℤ, pos, negsuc, ◌+◌, Bool, true, false, if◌then◌else◌, ◌==◌, ◌||◌, ◌/◌, ◌%◌, ◌<◌, List, [], ◌∷◌, refl, ◌∙◌, arith}
use Rattle.std.proofs.lemmas.Bool.Decides.{nat_tests}
use Rattle.std.proofs.lemmas.List.Folds.{list_any-append}
use Rattle.std.specs.List.{list_any}
use Rattle.std.specs.Fmt.{decimal, digits, digits_onto, digit_glyph}
use Rattle.geom.specs.Written.{six_digits, written, written_size}
use Rattle.xmltext.specs.Escape.{is_markup}
use Rattle.capabilities.specs.Boxes.{is_edge}

-- where neither of two conditions holds, their OR doesn't hold
pub or-from : (x y : Bool) → x ≡ false → y ≡ false → (x || y) ≡ false
or-from false y h k = k
or-from true y h k = cc

-- the byte of a digit
digit-glyph : (n : ℕ) → n < 10 → digit_glyph false n ≡ 48 + n
digit-glyph n h = grind (arith, nat_tests)

-- where two texts lack such bytes, so does the one that is chosen
either-lacks : (p : ℕ → Bool) (b : Bool) (xs ys : List ℕ) → list_any p xs ≡ false → list_any p ys ≡ false → list_any p (if b then xs else ys) ≡ false
either-lacks p true xs ys h k = h
either-lacks p false xs ys h k = k

-- no byte of a number is such a byte
pub record IsElsewhere (p : ℕ → Bool) : Type 0 where
  pub digit : (n : ℕ) → n < 10 → p (48 + n) ≡ false
  pub minus : p 45 ≡ false
  pub point : p 46 ≡ false

-- so the digits of a number have none of them, before other bytes that have none
onto-lacks : (p : ℕ → Bool) → IsElsewhere p → (k n : ℕ) (rest : List ℕ) → list_any p rest ≡ false → list_any p (digits_onto k 10 false n rest) ≡ false
onto-lacks p e zero n rest h = h
onto-lacks p e (suc k) n rest h =
    let more = or-from (p (digit_glyph false (n % 10))) (list_any p rest) (glyph-lacks (n % 10) (omega arith)) h in
    either-lacks p (n / 10 == 0) _ _ more (onto-lacks p e k (n / 10) (digit_glyph false (n % 10) ∷ rest) more)
  where
    glyph-lacks : (m : ℕ) → m < 10 → p (digit_glyph false m) ≡ false
    glyph-lacks m small = rw (digit-glyph m small) (e.digit m small)

decimal-lacks : (p : ℕ → Bool) → IsElsewhere p → (n : ℕ) → list_any p (decimal n) ≡ false
unfolding digits
decimal-lacks p e n = onto-lacks p e 64 n [] refl

six-lacks : (p : ℕ → Bool) → IsElsewhere p → (n : ℕ) → list_any p (six_digits n) ≡ false
six-lacks p e n =
    or-from _ _ (e.digit (n / 100000 % 10) (omega arith)) (or-from _ _ (e.digit (n / 10000 % 10) (omega arith))
    (or-from _ _ (e.digit (n / 1000 % 10) (omega arith)) (or-from _ _ (e.digit (n / 100 % 10) (omega arith))
    (or-from _ _ (e.digit (n / 10 % 10) (omega arith)) (or-from _ false (e.digit (n % 10) (omega arith)) refl)))))

size-lacks : (p : ℕ → Bool) → IsElsewhere p → (n : ℕ) → list_any p (written_size n) ≡ false
size-lacks p e n =
    list_any-append p (decimal (n / 1000000)) (46 ∷ six_digits n)
    ∙ or-from _ _ (decimal-lacks p e (n / 1000000)) (or-from _ _ e.point (six-lacks p e n))

pub written-lacks : (p : ℕ → Bool) → IsElsewhere p → (z : ℤ) → list_any p (written z) ≡ false
written-lacks p e (pos n) = size-lacks p e n
written-lacks p e (negsuc n) = or-from _ _ e.minus (size-lacks p e (suc n))

-- no digit is markup
markup-elsewhere : IsElsewhere is_markup
markup-elsewhere = record { digit = digit-plain; minus = refl; point = refl }
  where
    digit-plain : (n : ℕ) → n < 10 → is_markup (48 + n) ≡ false
    digit-plain n h = grind (arith, nat_tests)

-- nor does any begin or end a tag
pub edge-elsewhere : IsElsewhere is_edge
edge-elsewhere = record { digit = digit-inside; minus = refl; point = refl }
  where
    digit-inside : (n : ℕ) → n < 10 → is_edge (48 + n) ≡ false
    digit-inside n h = grind (arith, nat_tests)

-- nor is any a blank
abbrev pub is_blank : ℕ → Bool
is_blank b = b == 32

pub blank-elsewhere : IsElsewhere is_blank
blank-elsewhere = record { digit = digit-shown; minus = refl; point = refl }
  where
    digit-shown : (n : ℕ) → n < 10 → is_blank (48 + n) ≡ false
    digit-shown n h = grind (arith, nat_tests)

pub decimal-plain : (n : ℕ) → list_any is_markup (decimal n) ≡ false
decimal-plain n = decimal-lacks is_markup markup-elsewhere n

pub written-plain : (z : ℤ) → list_any is_markup (written z) ≡ false
written-plain z = written-lacks is_markup markup-elsewhere z
