-- The whole numbers that lists of digits are.
use Rattle.std.proofs.Common.{◌≡◌, ℕ, ◌+◌, ◌-◌, ◌*◌, ◌^◌, ◌<◌, ◌≤◌, ◌++◌, true, List, [], ◌∷◌, length, ◌∙◌, arith}
use Rattle.std.proofs.Math.Nat.{pow-succ', mul-le-mul_left}
use Rattle.std.proofs.lemmas.Bool.{and_parts}
use Rattle.std.proofs.lemmas.Bool.Decides.{nat_tests}
use Rattle.std.proofs.lemmas.List.Sums.{fold-append}
use Rattle.std.specs.Char.{is_ascii_digit}
use Rattle.std.specs.List.{fold, list_all}
use Rattle.geom.specs.Decimal.{with_digit, number_of}

-- a number with further digits: each digit multiplies it by ten
pub fold-from : (n : ℕ) (digits : List ℕ) → fold with_digit n digits ≡ n * 10 ^ length digits + number_of digits
fold-from n [] = omega arith
fold-from n (d ∷ ds) =
    rw (fold-from (with_digit n d) ds, fold-from (with_digit 0 d) ds, pow-succ' 10 (length ds)) (omega arith)

-- the number of two lists of digits, one after the other
pub number_of-append : (a b : List ℕ) → number_of (a ++ b) ≡ number_of a * 10 ^ length b + number_of b
number_of-append a b = fold-append with_digit 0 a b ∙ fold-from (number_of a) b

-- the number of a digit and further ones
pub number_of-cons : (d : ℕ) (ds : List ℕ) → number_of (d ∷ ds) ≡ (d - 48) * 10 ^ length ds + number_of ds
number_of-cons d ds = fold-from (with_digit 0 d) ds ∙ omega arith

-- a digit is a byte from 48 to 57
pub digit-range : (d : ℕ) → is_ascii_digit d ≡ true → (48 ≤ d) × (d ≤ 57)
digit-range d h = grind (arith, nat_tests)

-- the first of some digits, and the others
pub digits-cons : (d : ℕ) (ds : List ℕ) → list_all is_ascii_digit (d ∷ ds) ≡ true → (is_ascii_digit d ≡ true) × (list_all is_ascii_digit ds ≡ true)
digits-cons d ds h = and_parts (is_ascii_digit d) (list_all is_ascii_digit ds) h

-- a number is below ten to the power of the number of its digits
pub number_of-below : (digits : List ℕ) → list_all is_ascii_digit digits ≡ true → number_of digits < 10 ^ length digits
number_of-below [] h = omega arith
number_of-below (d ∷ ds) h =
    let parts = digits-cons d ds h in
    let digit : d - 48 ≤ 9 = omega (arith, digit-range d parts.0) in
    let most : (d - 48) * 10 ^ length ds ≤ 9 * 10 ^ length ds = omega (arith, mul-le-mul_left (10 ^ length ds) digit) in
    rw (number_of-cons d ds, pow-succ' 10 (length ds)) (omega (arith, number_of-below ds parts.1))
