-- Decimal numbers that are rounded where their last digits are cut off.
use Rattle.std.proofs.Common.{◌≡◌, ℕ, ◌+◌, ◌-◌, ◌*◌, ◌^◌, ◌<◌, ◌≤◌, ◌++◌, true, false, ◌&&◌, nat_le, if◌then◌else◌, List, ◌∷◌, length, take, drop, get_or, add-one, drop-cons, length-drop, inl, inr, sym, ◌∙◌, ap, arith}
use Rattle.std.proofs.Math.Nat.{pow-succ', pow-le-pow_right, one-le-pow, mul-le-mul_left}
use Rattle.std.proofs.lemmas.Nat.{pow-add}
use Rattle.std.proofs.lemmas.Bool.{cases_lt, and_parts}
use Rattle.std.proofs.lemmas.Bool.Decides.{nat_tests}
use Rattle.std.proofs.lemmas.List.{take-append-drop}
use Rattle.std.proofs.lemmas.List.Folds.{list_all-append}
use Rattle.std.specs.Char.{is_ascii_digit}
use Rattle.std.specs.List.{list_all}
use Rattle.std.specs.Bool.{IsTrue}
use Rattle.geom.specs.Decimal.{number_of, nearest, are_digits}
use Rattle.geom.proofs.Digits.{number_of-append, number_of-cons, number_of-below, digit-range, digits-cons}
use Rattle.geom.proofs.Rounding.{nearest-is, nearest-none, nearest-cancel}

-- the power of a sum that is known
power-sum : (a b c : ℕ) → a + b ≡ c → 10 ^ c ≡ 10 ^ a * 10 ^ b
power-sum a b c h = rw (sym h) (pow-add 10 a b)

-- powers of ten above and below a fraction's line cancel
pub nearest-scaled : (n a b : ℕ) → nearest (n * 10 ^ a) (10 ^ b) ≡ nearest (n * 10 ^ (a - b)) (10 ^ (b - a))
nearest-scaled n a b = elim (cases_lt a b) [
  | inl less ↦
      (let none : a - b ≡ 0 = omega arith in
      let power : 10 ^ b ≡ 10 ^ a * 10 ^ (b - a) = power-sum a (b - a) b (omega arith) in
      let top : n * 10 ^ a ≡ 10 ^ a * (n * 10 ^ 0) = omega arith in
      rw (none, power, top) (nearest-cancel (10 ^ a) (n * 10 ^ 0) (10 ^ (b - a)) (one-le-pow a 10 (omega arith))))
  | inr most ↦
      (let none : b - a ≡ 0 = omega arith in
      let power : 10 ^ a ≡ 10 ^ b * 10 ^ (a - b) = power-sum b (a - b) a (omega arith) in
      let top : n * (10 ^ b * 10 ^ (a - b)) ≡ 10 ^ b * (n * 10 ^ (a - b)) = omega arith in
      let bottom : 10 ^ b ≡ 10 ^ b * 10 ^ 0 = omega arith in
      rw (none, power, top) (ap (nearest (10 ^ b * (n * 10 ^ (a - b)))) bottom ∙ nearest-cancel (10 ^ b) (n * 10 ^ (a - b)) (10 ^ 0) (one-le-pow b 10 (omega arith))))
]

-- a digit that is at least 5 rounds up the number before it
round-up : (n x rest p : ℕ) → 5 ≤ x → x ≤ 9 → rest < p → nearest (n * (10 * p) + (x * p + rest)) (10 * p) ≡ n + 1
round-up n x rest p least most below =
    let low : 5 * p ≤ x * p = omega (arith, mul-le-mul_left p least) in
    let high : x * p ≤ 9 * p = omega (arith, mul-le-mul_left p most) in
    nearest-is (n * (10 * p) + (x * p + rest)) (10 * p) (n + 1) (omega arith) (omega arith) (omega arith)

-- and a digit that is less leaves it
round-down : (n x rest p : ℕ) → x ≤ 4 → rest < p → nearest (n * (10 * p) + (x * p + rest)) (10 * p) ≡ n + 0
round-down n x rest p most below =
    let high : x * p ≤ 4 * p = omega (arith, mul-le-mul_left p most) in
    nearest-is (n * (10 * p) + (x * p + rest)) (10 * p) (n + 0) (omega arith) (omega arith) (omega arith)

-- a number without its last digits, rounded by the first of them
cut : (a c : List ℕ) (d : ℕ) → list_all is_ascii_digit (d ∷ c) ≡ true →
    nearest (number_of (a ++ d ∷ c)) (10 ^ length (d ∷ c)) ≡ number_of a + (if nat_le 53 d then 1 else 0)
cut a c d all =
    let digit = digit-range d (digits-cons d c all).0 in
    let below = number_of-below c (digits-cons d c all).1 in
    rw (number_of-append a (d ∷ c), number_of-cons d c, pow-succ' 10 (length c)) (elim (cases_lt d 53) [
      | inl less ↦ (let test : nat_le 53 d ≡ false = grind (arith, nat_tests) in
          rw test (round-down (number_of a) (d - 48) (number_of c) (10 ^ length c) (omega arith) below))
      | inr most ↦ (let test : nat_le 53 d ≡ true = grind (arith, nat_tests) in
          rw test (round-up (number_of a) (d - 48) (number_of c) (10 ^ length c) (omega arith) (omega (arith, digit)) below))
    ])

-- digits that are cut off one and all leave 0
pub cut-all : (digits : List ℕ) (count : ℕ) → list_all is_ascii_digit digits ≡ true → length digits < count → nearest (number_of digits) (10 ^ count) ≡ 0
cut-all digits count all h =
    let power : 10 ^ (1 + length digits) ≤ 10 ^ count = pow-le-pow_right {n = 10} (omega arith) (omega arith) in
    let ten : 10 ^ (1 + length digits) ≡ 10 ^ 1 * 10 ^ length digits = pow-add 10 1 (length digits) in
    nearest-none (number_of digits) (10 ^ count) (omega (arith, number_of-below digits all))

-- the last digits that are cut off round the number of the others by the first of them
pub cut-last : (digits : List ℕ) (kept count : ℕ) → list_all is_ascii_digit digits ≡ true → 1 ≤ count → kept + count ≡ length digits →
    nearest (number_of digits) (10 ^ count) ≡ number_of (take kept digits) + (if nat_le 53 (get_or digits kept 0) then 1 else 0)
cut-last digits kept count all some sum =
    let inside : kept < length digits = omega arith in
    let rest : drop kept digits ≡ get_or digits kept 0 ∷ drop (kept + 1) digits = rw (add-one, drop-cons digits kept 0) in
    let parts : take kept digits ++ (get_or digits kept 0 ∷ drop (kept + 1) digits) ≡ digits = rw (sym rest) (take-append-drop kept digits) in
    let size : length (get_or digits kept 0 ∷ drop (kept + 1) digits) ≡ count = omega (arith, ap length rest, length-drop kept digits) in
    let tail : list_all is_ascii_digit (get_or digits kept 0 ∷ drop (kept + 1) digits) ≡ true =
    (and_parts (list_all is_ascii_digit (take kept digits)) _ (sym (list_all-append is_ascii_digit (take kept digits) _) ∙ ap (list_all is_ascii_digit) parts ∙ all)).1 in
    sym (ap (λ n. nearest (number_of digits) (10 ^ n)) size)
    ∙ ap (λ ds. nearest (number_of ds) (10 ^ length (get_or digits kept 0 ∷ drop (kept + 1) digits))) (sym parts)
    ∙ cut (take kept digits) (drop (kept + 1) digits) (get_or digits kept 0) tail

-- the digits on both sides of a point are digits
pub digits-both : (whole decimals : List ℕ) → IsTrue (are_digits whole decimals) → list_all is_ascii_digit (whole ++ decimals) ≡ true
digits-both whole decimals h =
    let parts = and_parts (list_all is_ascii_digit whole && list_all is_ascii_digit decimals) _ h in
    list_all-append is_ascii_digit whole decimals ∙ parts.0
