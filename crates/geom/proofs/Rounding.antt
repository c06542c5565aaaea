-- The nearest whole number.
use Rattle.std.proofs.Common.{◌≡◌, ℕ, ◌+◌, ◌*◌, ◌<◌, ◌≤◌, inl, inr, ap, arith}
use Rattle.std.proofs.Math.Nat.{mul-div-le, lt-mul-div-succ, mul-le-mul_left, eq-or-lt_of_le, mul-div-mul_left}
use Rattle.std.proofs.lemmas.Bool.{cases_lt}
use Rattle.geom.specs.Decimal.{nearest, IsNearest, NearestIsNearest}

-- the nearest number is at most half a whole above p / q, and less than half a whole below it
pub nearest-bounds : (p q : ℕ) → 1 ≤ q → (2 * (nearest p q * q) ≤ 2 * p + q) × (2 * p < 2 * (nearest p q * q) + q)
unfolding nearest
nearest-bounds p q h =
    (omega (arith, mul-div-le (2 * p + q) (2 * q)), omega (arith, lt-mul-div-succ (2 * p + q) {b = 2 * q} (omega arith)))

-- a greater whole number is at least one q further
more-than : (m n q : ℕ) → m < n → m * q + q ≤ n * q
more-than m n q h = omega (arith, mul-le-mul_left {m = m + 1} {n = n} q (omega arith))

-- what lies that near is nearest
pub nearest_by-bounds : (p q n : ℕ) → 1 ≤ q → 2 * (n * q) ≤ 2 * p + q → 2 * p < 2 * (n * q) + q → IsNearest p q n
nearest_by-bounds p q n h above below = record {
  near = λ m. elim (cases_lt n m) [
    | inl more ↦ omega (arith, more-than n m q more)
    | inr most ↦ elim (eq-or-lt_of_le most) [ inl same ↦ omega (arith, ap (λ k. k * q) same) | inr less ↦ omega (arith, more-than m n q less) ]
  ];
  greatest = λ m d. elim (cases_lt n m) [ inl more ↦ absurd (omega (arith, more-than n m q more)) | inr most ↦ most ];
}

pub nearest-law : NearestIsNearest
nearest-law p q h = nearest_by-bounds p q (nearest p q) h (nearest-bounds p q h).0 (nearest-bounds p q h).1

-- only one whole number lies that near
pub nearest-is : (p q n : ℕ) → 1 ≤ q → 2 * (n * q) ≤ 2 * p + q → 2 * p < 2 * (n * q) + q → nearest p q ≡ n
nearest-is p q n h above below = elim (cases_lt (nearest p q) n) [
  | inl less ↦ absurd (omega (arith, more-than (nearest p q) n q less, (nearest-bounds p q h).1))
  | inr most ↦ elim (eq-or-lt_of_le most) [
    | inl same ↦ omega arith
    | inr more ↦ absurd (omega (arith, more-than n (nearest p q) q more, (nearest-bounds p q h).0))
  ]
]

-- a factor of both numbers doesn't count
pub nearest-cancel : (c p q : ℕ) → 1 ≤ c → nearest (c * p) (c * q) ≡ nearest p q
unfolding nearest
nearest-cancel c p q h =
    let top : 2 * (c * p) + c * q ≡ c * (2 * p + q) = omega arith in
    let bottom : 2 * (c * q) ≡ c * (2 * q) = omega arith in
    rw (top, bottom) (mul-div-mul_left (2 * p + q) (2 * q) h)

-- a whole number is nearest to itself
pub nearest-whole : (n : ℕ) → nearest n 1 ≡ n
nearest-whole n = nearest-is n 1 n (omega arith) (omega arith) (omega arith)

-- what is less than half a whole is nearest to 0
pub nearest-none : (p q : ℕ) → 2 * p < q → nearest p q ≡ 0
nearest-none p q h = nearest-is p q 0 (omega arith) (omega arith) (omega arith)
