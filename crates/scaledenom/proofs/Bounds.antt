-- Bounds on the scale denominator.
use Rattle.std.proofs.Common.{◌≡◌, ℕ, ◌+◌, ◌*◌, ◌≤◌, Bool, true, false, not, ◌||◌, ◌&&◌, refl, inl, inr, ap, arith}
use Rattle.std.proofs.Math.Nat.{mul-le-mul_right}
use Rattle.std.proofs.lemmas.Bool.{cases_lt}
use Rattle.std.proofs.lemmas.Int.{ints}
use Rattle.std.specs.Prelude.{int_le}
use lib.IntN.{pos, negsuc}
use Rattle.scaledenom.specs.Scale.{ground_width, picture_width, reaches, BoundsAreFractions, OneOfTwoIsVisible, WorkedMetres, WorkedScale}

pub worked : WorkedScale
worked = refl

pub worked-metres : WorkedMetres
worked-metres = record { one = refl; reached = refl; before = refl }

-- a bound above 0 counts
counts : (low reached : Bool) → low ≡ false → (low || not reached) ≡ not (reached && true)
counts low true h = rw h
counts low false h = rw h

pub one-of-two : OneOfTwoIsVisible
one-of-two scale bound some = counts (int_le bound (pos 0)) (reaches scale bound) (grind (arith, ints))

-- where g / w is p / q, n / m is at most the one exactly where it is at most the other, for a million m
fraction-to : (n w g p q : ℕ) → 1 ≤ w → q * g ≡ p * w → n * w ≤ g * 1000000 → n * q ≤ p * 1000000
fraction-to n w g p q some is h = elim (cases_lt (p * 1000000) (n * q)) [
  | inl more ↦ absurd (omega (
    arith,
    some,
    ap (λ k. k * 1000000) is,
    mul-le-mul_right {m = p * 1000000 + 1} {n = n * q} w (omega arith),
    mul-le-mul_right {m = n * w} {n = g * 1000000} q h,
  ))
  | inr most ↦ most
]

fraction-from : (n w g p q : ℕ) → 1 ≤ q → q * g ≡ p * w → n * q ≤ p * 1000000 → n * w ≤ g * 1000000
fraction-from n w g p q some is h = fraction-to n q p g w some (omega (arith, is)) h

pub bounds-law : BoundsAreFractions
bounds-law scale p q (pos n) width some is = (
  λ reached. let most = fraction-to n (picture_width scale) (ground_width scale) p q (omega arith) is (grind (arith, ints)) in grind (arith, ints, most),
  λ below. let most = fraction-from n (picture_width scale) (ground_width scale) p q some is (grind (arith, ints)) in grind (arith, ints, most),
)
bounds-law scale p q (negsuc n) width some is = (λ reached. omega (arith, ints), λ below. grind (arith, ints))
