-- Numbers that are kept up to a cap.
use Rattle.std.proofs.Common.{◌≡◌, ℕ, suc, ℤ, ◌++◌, pos, negsuc, ◌+◌, ◌-◌, ◌*◌, ◌^◌, ◌<◌, ◌≤◌, Bool, true, false, List, [], ◌∷◌, nat_le, if◌then◌else◌, Err, Option, Some, None, length, min, take, take_all, append-nil, inl, inr, refl, sym, ◌∙◌, ap, arith}
use Rattle.std.proofs.Math.Nat.{pow-le-pow_right, mul-le-mul_left, one-le-pow}
use Rattle.std.proofs.lemmas.Nat.{pow-add}
use Rattle.std.proofs.Math.Seq.{take-append-add}
use Rattle.std.proofs.lemmas.List.{take-append-le}
use Rattle.std.proofs.lemmas.List.Sums.{fold-append}
use Rattle.std.proofs.lemmas.Bool.{cases_lt}
use Rattle.std.proofs.lemmas.Bool.Decides.{nat_tests}
use Rattle.std.specs.Char.{is_ascii_digit}
use Rattle.std.specs.List.{fold, list_all}
use Rattle.std.specs.Option.{option_map}
use mir.Val.{bool_byte}
use Rattle.geom.specs.Capped.{capped, clamped_to_limits, scaled}
use Rattle.geom.specs.Decimal.{with_digit, number_of, nearest, up, down, Decimal, millionths_of, limited, found}
use Rattle.geom.specs.declared.micro.NumberFault.TheVariants.{TooLarge}
use Rattle.geom.proofs.Rounding.{nearest-whole}
use Rattle.geom.proofs.Cuts.{cut-all, nearest-scaled}

-- one more digit makes the same of a capped number as of the number, up to the cap
pub with_digit-capped : (n digit : ℕ) → capped (with_digit (capped n) digit) ≡ capped (with_digit n digit)
with_digit-capped n digit = omega arith

-- further digits make the same of a capped number as of the number, up to the cap
pub fold-capped : (n : ℕ) (digits : List ℕ) → capped (fold with_digit (capped n) digits) ≡ capped (fold with_digit n digits)
fold-capped n [] = omega arith
fold-capped n (d ∷ ds) =
    sym (fold-capped (with_digit (capped n) d) ds)
    ∙ ap (λ m. capped (fold with_digit m ds)) (with_digit-capped n d)
    ∙ fold-capped (with_digit n d) ds

-- a number with twenty zeros after it is past every limit
pub zeros-past : (n zeros : ℕ) → 1 ≤ n → 20 ≤ zeros → 2 ^ 64 - 1 ≤ n * 10 ^ zeros
zeros-past n zeros some many =
    let power : 10 ^ 20 ≤ 10 ^ zeros = pow-le-pow_right {n = 10} (omega arith) many in
    omega (arith, mul-le-mul_left (10 ^ zeros) some)

-- zeros after a capped number make the same of it as of the number, up to the cap
pub zeros-capped : (n zeros : ℕ) → 1 ≤ 10 ^ zeros → capped (capped n * 10 ^ zeros) ≡ capped (n * 10 ^ zeros)
zeros-capped n zeros some = elim (cases_lt n (2 ^ 64)) [
  | inl small ↦ (let same : capped n ≡ n = omega arith in ap (λ m. capped (m * 10 ^ zeros)) same)
  | inr large ↦ (let cap : capped n ≡ 2 ^ 64 - 1 = omega arith in
      rw cap (omega (arith, mul-le-mul_left (2 ^ 64 - 1) some, mul-le-mul_left n some)))
]

-- what is above the limit is refused
limited-past : (limit : ℕ) (negative : Bool) (n : ℕ) → limit < n → limited limit negative n ≡ Err TooLarge
limited-past limit negative n h = let past : nat_le n limit ≡ false = grind (arith, nat_tests) in rw past refl

-- sizes that differ past every limit alone are taken or refused alike
limited-same : (limit : ℕ) (negative : Bool) (a b : ℕ) → limit < 2 ^ 63 → clamped_to_limits a ≡ clamped_to_limits b → limited limit negative a ≡ limited limit negative b
limited-same limit negative a b h e = elim (cases_lt a (2 ^ 63)) [
  | inl small ↦ (let same : a ≡ b = omega arith in ap (limited limit negative) same)
  | inr large ↦ limited-past limit negative a (omega arith) ∙ sym (limited-past limit negative b (omega arith))
]

-- a number is scaled up past every limit, or is 0, whatever the number of its zeros, where they are twenty
scaled-past : (digits : List ℕ) (ups downs : ℕ) → downs + 20 ≤ ups → clamped_to_limits (scaled digits ups downs) ≡ clamped_to_limits (number_of digits * 10 ^ 20)
scaled-past digits ups downs h =
    let none : downs - ups ≡ 0 = omega arith in
    rw (none, nearest-whole (number_of digits * 10 ^ (ups - downs))) (elim (cases_lt 0 (number_of digits)) [
      | inl some ↦ omega (arith, zeros-past (number_of digits) (ups - downs) some (omega arith))
      | inr zero_only ↦ (let is : number_of digits ≡ 0 = omega arith in rw is (omega arith))
    ])

-- a number is scaled down to 0 where all its digits are cut off
scaled-none : (digits : List ℕ) (ups downs : ℕ) → list_all is_ascii_digit digits ≡ true → ups + length digits < downs → scaled digits ups downs ≡ 0
scaled-none digits ups downs all h =
    let none : ups - downs ≡ 0 = omega arith in
    let same : number_of digits * 10 ^ 0 ≡ number_of digits = omega arith in
    rw (none, same) (cut-all digits (downs - ups) all (omega arith))

-- a capped exponent scales a number up as the exponent does, as far as no limit is passed
scaled-up : (digits : List ℕ) (up decimals : ℕ) → decimals < 2 ^ 63 →
    clamped_to_limits (scaled digits (capped up + 6) decimals) ≡ clamped_to_limits (scaled digits (up + 6) decimals)
scaled-up digits up decimals few = elim (cases_lt up (2 ^ 64)) [
  | inl small ↦ (let same : capped up ≡ up = omega arith in ap (λ n. clamped_to_limits (scaled digits (n + 6) decimals)) same)
  | inr large ↦ scaled-past digits (capped up + 6) decimals (omega arith) ∙ sym (scaled-past digits (up + 6) decimals (omega arith))
]

-- and down
scaled-down : (digits : List ℕ) (down decimals : ℕ) → list_all is_ascii_digit digits ≡ true → length digits < 2 ^ 63 →
    clamped_to_limits (scaled digits 6 (decimals + capped down)) ≡ clamped_to_limits (scaled digits 6 (decimals + down))
scaled-down digits down decimals all short = elim (cases_lt down (2 ^ 64)) [
  | inl small ↦ (let same : capped down ≡ down = omega arith in ap (λ n. clamped_to_limits (scaled digits 6 (decimals + n))) same)
  | inr large ↦ ap clamped_to_limits (scaled-none digits 6 (decimals + capped down) all (omega arith) ∙ sym (scaled-none digits 6 (decimals + down) all (omega arith)))
]

-- a capped exponent scales a number as the exponent does, as far as no limit is passed
scaled-capped : (digits : List ℕ) (exponent : ℤ) (decimals : ℕ) → list_all is_ascii_digit digits ≡ true → length digits < 2 ^ 63 → decimals < 2 ^ 63 →
    clamped_to_limits (scaled digits (capped (up exponent) + 6) (decimals + capped (down exponent))) ≡ clamped_to_limits (scaled digits (up exponent + 6) (decimals + down exponent))
scaled-capped digits (pos n) decimals all short few = scaled-up digits n (decimals + 0) (omega arith)
scaled-capped digits (negsuc n) decimals all short few = scaled-down digits (suc n) decimals all short

-- a fraction of millionths is its digits scaled
scaled-is : (n up down decimals : ℕ) → nearest (1000000 * (n * 10 ^ up)) (10 ^ (decimals + down)) ≡ nearest (n * 10 ^ (up + 6 - (decimals + down))) (10 ^ (decimals + down - (up + 6)))
scaled-is n up down decimals =
    let power : 10 ^ (up + 6) ≡ 10 ^ up * 10 ^ 6 = pow-add 10 up 6 in
    let top : 1000000 * (n * 10 ^ up) ≡ n * 10 ^ (up + 6) = rw power (omega arith) in
    rw top (nearest-scaled n (up + 6) (decimals + down))

-- the millionths of a decimal number, from its digits and its capped exponent
pub millionths-are : (d : Decimal) → list_all is_ascii_digit (d.whole ++ d.decimals) ≡ true → length (d.whole ++ d.decimals) < 2 ^ 63 → length d.decimals < 2 ^ 63 →
    clamped_to_limits (scaled (d.whole ++ d.decimals) (capped (up d.exponent) + 6) (length d.decimals + capped (down d.exponent))) ≡ clamped_to_limits (millionths_of d)
millionths-are d all short few =
    scaled-capped (d.whole ++ d.decimals) d.exponent (length d.decimals) all short few
    ∙ ap clamped_to_limits (sym (scaled-is (number_of (d.whole ++ d.decimals)) (up d.exponent) (down d.exponent) (length d.decimals)))

-- a capped number with the zeros that its scale requires
pub scaled-zeros : (digits : List ℕ) (ups downs : ℕ) → downs ≤ ups → clamped_to_limits (capped (capped (number_of digits) * 10 ^ (ups - downs))) ≡ clamped_to_limits (scaled digits ups downs)
scaled-zeros digits ups downs h =
    let none : downs - ups ≡ 0 = omega arith in
    rw (zeros-capped (number_of digits) (ups - downs) (one-le-pow (ups - downs) 10 (omega arith)), none, nearest-whole (number_of digits * 10 ^ (ups - downs)))
    (omega arith)

-- the first elements of two lists, one after the other
take-both : (xs ys : List ℕ) (count before : ℕ) → before ≡ min count (length xs) → take before xs ++ take (count - before) ys ≡ take count (xs ++ ys)
take-both xs ys count before is = elim (cases_lt (length xs) count) [
  | inl more ↦
      (let all : before ≡ length xs = omega arith in
      let sum : length xs + (count - length xs) ≡ count = omega arith in
      rw (all, take_all (length xs) xs (omega arith)) (sym (take-append-add xs ys (count - length xs)) ∙ ap (λ n. take n (xs ++ ys)) sum))
  | inr few ↦
      (let some : before ≡ count = omega arith in
      let none : count - count ≡ 0 = omega arith in
      rw (some, none) (append-nil (take count xs) ∙ sym (take-append-le count xs ys few)))
]

-- the first digits before a point and after it, read with a cap
pub first-capped : (whole decimals : List ℕ) (count before : ℕ) → before ≡ min count (length whole) →
    capped (fold with_digit (capped (number_of (take before whole))) (take (count - before) decimals)) ≡ capped (number_of (take count (whole ++ decimals)))
first-capped whole decimals count before is = fold-capped (number_of (take before whole)) (take (count - before) decimals)
    ∙ ap capped (sym (fold-append with_digit 0 (take before whole) (take (count - before) decimals)))
    ∙ ap (λ (ds : List ℕ). capped (number_of ds)) (take-both whole decimals count before is)

-- a capped number that is rounded up, or not, passes the limits as the number does
pub rounded-capped : (n : ℕ) (rounds_up : Bool) → clamped_to_limits (min (capped n + bool_byte rounds_up) (2 ^ 64 - 1)) ≡ clamped_to_limits (n + (if rounds_up then 1 else 0))
rounded-capped n true = omega arith
rounded-capped n false = omega arith

-- a size as far as it is read is taken or refused as the millionths of the decimal number are
pub found-same : (limit : ℕ) (negative : Bool) (o : Option Decimal) (size : ℕ) → limit < 2 ^ 63 →
    Some (clamped_to_limits size) ≡ option_map (λ (d : Decimal). clamped_to_limits (millionths_of d)) o → limited limit negative size ≡ found limit negative o
found-same limit negative None size h e = cc
found-same limit negative (Some d) size h e =
    let same : clamped_to_limits size ≡ clamped_to_limits (millionths_of d) = cc in
    limited-same limit negative size (millionths_of d) h same
