-- Quotients by products, and the axes of a view.
use Rattle.std.proofs.Common.{◌≡◌, ◌∙◌, ℕ, ◌+◌, ◌*◌, ◌/◌, ◌<◌, ◌≤◌, ◌^◌, arith, suc, sym, ap, refl}
use Rattle.std.proofs.Math.Nat.{mul-le-mul_left, mul-le-mul_right, lt_of_mul-lt-mul_left, mul-div-le, lt-mul-div-succ}
use Rattle.std.proofs.lemmas.Int.{ints}
use Rattle.std.proofs.lemmas.Nat.{div_below, le-div, mul-lt}
use Rattle.std.specs.Int.{int_div_euclid}
use Rattle.std.specs.Int.RustNames.{unsigned_abs}
use lib.IntN.{ℤ, pos, negsuc, neg_ℤ, ◌+ℤ◌, ◌-ℤ◌, ◌*ℤ◌}
use lib.Signed.{◌<ℤ◌, ◌≤ℤ◌}
use Rattle.geom.specs.Range.{IsBelow, IsWithin}
use Rattle.geom.proofs.Products.{mul-add, sub-mul}
use Rattle.geom.proofs.Quotients.{at_most-by_product, quotient_is, quotient_parts}
use Rattle.viewport.specs.Axis.{AxisValue, IsAxis, ProductsAreQuotients}
use Rattle.viewport.specs.View.{sixteenths}

-- a number between a multiple of the limit and the next has that quotient
pub quotient-is : (x q limit : ℕ) → 0 < limit → q * limit ≤ x → x < (q + 1) * limit → x / limit ≡ q
quotient-is x q limit some least below = omega (arith, le-div q x limit some least, div_below x limit (q + 1) some below)

-- the law: the factor lies above the fraction by less than one part of the limit
pub products-law : ProductsAreQuotients
products-law number times whole limit some below =
    let k = times * limit / whole in
    let q = number * times / whole in
    let k-most : whole * k ≤ times * limit = mul-div-le (times * limit) whole in
    let k-least : times * limit < whole * (k + 1) = lt-mul-div-succ (times * limit) some in
    let q-most : whole * q ≤ number * times = mul-div-le (number * times) whole in
    let q-least : number * times < whole * (q + 1) = lt-mul-div-succ (number * times) some in
    let limit-some : 0 < limit = omega arith in
    let number-least : number * (times * limit) ≤ number * (whole * (k + 1)) = mul-le-mul_left number (omega arith) in
    let number-most : number * (whole * k) ≤ number * (times * limit) = mul-le-mul_left number k-most in
    let limit-most : limit * (whole * q) ≤ limit * (number * times) = mul-le-mul_left limit q-most in
    let limit-least : limit * (number * times + 1) ≤ limit * (whole * (q + 1)) = mul-le-mul_left limit (omega arith) in
    let least : q * limit < number * (k + 1) + 1 = lt_of_mul-lt-mul_left whole (omega arith) in
    let most : number * (k + 1) < (q + 1) * limit = lt_of_mul-lt-mul_left whole (omega arith) in
    quotient-is (number * (k + 1)) q limit limit-some (omega arith) most

-- so many more wholes on the one side are so many times more on the other
pub lifted-is : (times whole lifts n q : ℕ) (part : ℤ) → 0 < whole → pos n ≡ part +ℤ pos (whole * lifts) → q ≡ n * times / whole →
    pos q -ℤ pos (times * lifts) ≡ int_div_euclid (pos times *ℤ part) (pos whole)
lifted-is times whole lifts n q part some e f =
    let q-most : whole * q ≤ n * times = rw f (mul-div-le (n * times) whole) in
    let q-least : n * times < whole * (q + 1) = rw f (lt-mul-div-succ (n * times) some) in
    let product : pos times *ℤ pos n ≡ pos times *ℤ part +ℤ pos times *ℤ pos (whole * lifts) = ap (λ z. pos times *ℤ z) e ∙ mul-add (pos times) part (pos (whole * lifts)) in
    let back : (pos q -ℤ pos (times * lifts)) *ℤ pos whole ≡ pos q *ℤ pos whole -ℤ pos (times * lifts) *ℤ pos whole = sub-mul (pos q) (pos (times * lifts)) (pos whole) in
    sym (quotient_is (pos times *ℤ part) (pos whole) (pos q -ℤ pos (times * lifts)) (omega (arith, ints)) (omega (arith, ints, back, product)) (omega (arith, ints, back, product)))

-- all of it: a part that is lifted, multiplied and put back is the quotient, less the sixteenths before the canvas
pub axis-is : (times whole first lifts lift back factor n s : ℕ) (part : ℤ) → IsAxis times whole first lifts lift back factor → pos n ≡ part +ℤ pos lift → n < 2 ^ 33 →
    s ≡ n * factor / 2 ^ 64 → pos s -ℤ pos back ≡ int_div_euclid (pos times *ℤ part) (pos whole) -ℤ pos first
axis-is times whole first lifts lift back factor n s part is e below f =
    let product : n * whole < 2 ^ 33 * 2 ^ 31 = mul-lt n whole (2 ^ 33) (2 ^ 31) below is.whole_below in
    let under : n * whole < 2 ^ 64 = omega arith in
    let share : s ≡ n * times / whole = f ∙ (ap (λ k. n * k / 2 ^ 64) is.factor_is ∙ products-law n times whole (2 ^ 64) is.some under) in
    let lifted = lifted-is times whole lifts n s part is.some (e ∙ ap (λ k. part +ℤ pos k) is.lift_is) share in
    rw is.back_is (less (int_div_euclid (pos times *ℤ part) (pos whole)) (times * lifts) lifted)
  where
    less : (q : ℤ) (back : ℕ) → pos s -ℤ pos back ≡ q → pos s -ℤ pos (back + first) ≡ q -ℤ pos first
    less q back e = omega (arith, ints, e)

-- so many times a part are less than 2 ^ 46 times the whole
times-below : (times whole : ℕ) (part : ℤ) → times ≤ 2 ^ 15 * whole → IsBelow (2 ^ 31) part → IsWithin (2 ^ 46 * whole) (pos times *ℤ part)
times-below times whole (pos n) p h = record {
  least = omega (arith, ints);
  most = omega (arith, ints, mul-le-mul_right n p, mul-le-mul_right {m = n} {n = 2 ^ 31} whole (omega (arith, ints, h)));
}
times-below times whole (negsuc n) p h = record {
  least = omega (arith, ints, mul-le-mul_right (suc n) p, mul-le-mul_right {m = suc n} {n = 2 ^ 31} whole (omega (arith, ints, h)));
  most = omega (arith, ints);
}

-- so what an axis gives is below 2 ^ 47
pub axis-below : (times whole first : ℕ) (part : ℤ) → 0 < whole → times ≤ 2 ^ 15 * whole → first ≤ 2 ^ 17 → IsBelow (2 ^ 31) part →
    IsBelow (2 ^ 47) (int_div_euclid (pos times *ℤ part) (pos whole) -ℤ pos first)
axis-below times whole first part some coarse few h =
    let q = int_div_euclid (pos times *ℤ part) (pos whole) in
    let parts = quotient_parts (pos times *ℤ part) (pos whole) (omega (arith, ints, some)) in
    let size = times-below times whole part coarse h in
    let most : q ≤ℤ pos (2 ^ 46) = at_most-by_product q (pos (2 ^ 46)) (pos whole) (omega (arith, ints, some)) (omega (arith, ints, parts.0, size.most, some)) in
    let least : neg_ℤ (pos (2 ^ 46)) ≤ℤ q = at_most-by_product (neg_ℤ (pos (2 ^ 46))) q (pos whole) (omega (arith, ints, some)) (omega (arith, ints, parts.1, size.least, some)) in
    record { above = omega (arith, ints, least, few); below = omega (arith, ints, most) }

pub abs-is : (z : ℤ) → pos 0 <ℤ z → pos (unsigned_abs z) ≡ z
abs-is (pos n) h = refl
abs-is (negsuc n) h = absurd (omega (arith, ints))

-- what an axis of a view gives are the view's sixteenths, less those before the canvas
pub axis-sixteenths : (pixels first : ℕ) (part low high result : ℤ) (one : AxisValue) → one ≡ record { times = 16 * pixels; whole = unsigned_abs (high -ℤ low); first = first } → low <ℤ high →
    result ≡ int_div_euclid (pos one.times *ℤ part) (pos one.whole) -ℤ pos one.first → result ≡ sixteenths pixels part (high -ℤ low) -ℤ pos first
unfolding sixteenths
axis-sixteenths pixels first part low high result one e h is =
    is ∙ (ap (λ (v : AxisValue). int_div_euclid (pos v.times *ℤ part) (pos v.whole) -ℤ pos v.first) e
    ∙ ap (λ w. int_div_euclid (pos (16 * pixels) *ℤ part) w -ℤ pos first) (abs-is (high -ℤ low) (omega (arith, ints))))
