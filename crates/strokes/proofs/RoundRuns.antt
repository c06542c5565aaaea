-- What lies in a row between two points that a round segment covers is covered.
use Rattle.std.proofs.Common.{◌≡◌, ◌∙◌, ◌*◌, Bool, true, false, refl, ap, arith}
use Rattle.std.proofs.lemmas.Int.{ints}
use Rattle.std.specs.Prelude.{int_lt}
use lib.IntN.{ℤ, pos, neg_ℤ, ◌+ℤ◌, ◌-ℤ◌, ◌*ℤ◌}
use lib.Signed.{◌<ℤ◌, ◌≤ℤ◌}
use Rattle.geom.proofs.Products.{add-mul, lt_of, mul-add, mul-comm, mul-left_comm, mul-sub, neg-mul, product_negative, product_nonneg}
use Rattle.strokes.specs.Round.{covers_round, square}
use Rattle.strokes.specs.RoundLaw.{IsNear, RoundRowsAreRuns}
use Rattle.strokes.proofs.Squares.{exchanged, mul-assoc, square-add, square-mul, square-nonneg, square-sub, times}
use Rattle.strokes.proofs.RoundNear.{covered-near, near-covered}

-- the mean of two numbers, by parts of a and b, is no further from 0 than the mean of their squares says
mean : (a b x y : ℤ) → pos 0 ≤ℤ a → pos 0 ≤ℤ b → square (a *ℤ x +ℤ b *ℤ y) ≤ℤ ((a +ℤ b) *ℤ (a *ℤ square x +ℤ b *ℤ square y))
mean a b x y p q =
    let apart = product_nonneg (a *ℤ b) (square (x -ℤ y)) (product_nonneg a b p q) (square-nonneg (x -ℤ y)) in
    let apart' = rw (square-sub x y, mul-add (a *ℤ b) (square x -ℤ pos 2 *ℤ (x *ℤ y)) (square y), mul-sub (a *ℤ b) (square x) (pos 2 *ℤ (x *ℤ y)), mul-left_comm (a *ℤ b) (pos 2) (x *ℤ y)) at apart in
    rw (
      square-add (a *ℤ x) (b *ℤ y),
      square-mul a x,
      square-mul b y,
      exchanged a x b y,
      add-mul a b (a *ℤ square x +ℤ b *ℤ square y),
      mul-add a (a *ℤ square x) (b *ℤ square y),
      mul-add b (a *ℤ square x) (b *ℤ square y),
      ← mul-assoc a a (square x),
      ← mul-assoc a b (square y),
      ← mul-assoc b a (square x),
      ← mul-assoc b b (square y),
      mul-comm b a,
    ) (go (square a *ℤ square x) ((a *ℤ b) *ℤ (x *ℤ y)) (square b *ℤ square y) ((a *ℤ b) *ℤ square x) ((a *ℤ b) *ℤ square y) apart')
  where
    go : (s t u d e : ℤ) → pos 0 ≤ℤ (d -ℤ pos 2 *ℤ t +ℤ e) → (s +ℤ pos 2 *ℤ t +ℤ u) ≤ℤ ((s +ℤ e) +ℤ (d +ℤ u))
    go s t u d e h = omega (arith, ints)

-- so the mean of two points that lie within a distance does
means : (a b x y v z r : ℤ) → pos 0 ≤ℤ a → pos 0 ≤ℤ b → (square x +ℤ square v) ≤ℤ r → (square y +ℤ square z) ≤ℤ r →
    (square (a *ℤ x +ℤ b *ℤ y) +ℤ square (a *ℤ v +ℤ b *ℤ z)) ≤ℤ (square (a +ℤ b) *ℤ r)
means a b x y v z r p q h g =
    let first = mean a b x y p q in
    let second = mean a b v z p q in
    let one = times a (square x +ℤ square v) r p h in
    let two = times b (square y +ℤ square z) r q g in
    let sum : (a *ℤ (square x +ℤ square v) +ℤ b *ℤ (square y +ℤ square z)) ≤ℤ ((a +ℤ b) *ℤ r) = omega (arith, ints, one, two, add-mul a b r) in
    let all = times (a +ℤ b) (a *ℤ (square x +ℤ square v) +ℤ b *ℤ (square y +ℤ square z)) ((a +ℤ b) *ℤ r) (omega (arith, ints)) sum in
    let parts : (a +ℤ b) *ℤ (a *ℤ (square x +ℤ square v) +ℤ b *ℤ (square y +ℤ square z))
    ≡ (a +ℤ b) *ℤ (a *ℤ square x +ℤ b *ℤ square y) +ℤ (a +ℤ b) *ℤ (a *ℤ square v +ℤ b *ℤ square z) =
    rw (mul-add a (square x) (square v), mul-add b (square y) (square z)) (split (a *ℤ square x) (a *ℤ square v) (b *ℤ square y) (b *ℤ square z)) in
    rw (mul-assoc (a +ℤ b) (a +ℤ b) r) (omega (arith, ints, first, second, all, parts))
  where
    split : (s t u d : ℤ) → (a +ℤ b) *ℤ ((s +ℤ t) +ℤ (u +ℤ d)) ≡ (a +ℤ b) *ℤ (s +ℤ u) +ℤ (a +ℤ b) *ℤ (t +ℤ d)
    split s t u d = let same : (s +ℤ t) +ℤ (u +ℤ d) ≡ (s +ℤ u) +ℤ (t +ℤ d) = omega (arith, ints) in rw same (mul-add (a +ℤ b) (s +ℤ u) (t +ℤ d))

-- the number of a mean, by those of what it is the mean of
mean-way : (a b u u1 u2 k1 m1 k2 m2 s : ℤ) → (a +ℤ b) *ℤ u ≡ a *ℤ u1 +ℤ b *ℤ u2 →
    ((m1 *ℤ m2) *ℤ (a +ℤ b)) *ℤ u -ℤ (a *ℤ (m2 *ℤ k1) +ℤ b *ℤ (m1 *ℤ k2)) *ℤ s ≡ a *ℤ (m2 *ℤ (m1 *ℤ u1 -ℤ k1 *ℤ s)) +ℤ b *ℤ (m1 *ℤ (m2 *ℤ u2 -ℤ k2 *ℤ s))
mean-way a b u u1 u2 k1 m1 k2 m2 s e = rw (
  mul-assoc (m1 *ℤ m2) (a +ℤ b) u,
  e,
  mul-add (m1 *ℤ m2) (a *ℤ u1) (b *ℤ u2),
  first,
  second,
  add-mul (a *ℤ (m2 *ℤ k1)) (b *ℤ (m1 *ℤ k2)) s,
  mul-assoc a (m2 *ℤ k1) s,
  mul-assoc m2 k1 s,
  mul-assoc b (m1 *ℤ k2) s,
  mul-assoc m1 k2 s,
  mul-sub m2 (m1 *ℤ u1) (k1 *ℤ s),
  mul-sub m1 (m2 *ℤ u2) (k2 *ℤ s),
  mul-sub a (m2 *ℤ (m1 *ℤ u1)) (m2 *ℤ (k1 *ℤ s)),
  mul-sub b (m1 *ℤ (m2 *ℤ u2)) (m1 *ℤ (k2 *ℤ s)),
) (go (a *ℤ (m2 *ℤ (m1 *ℤ u1))) (b *ℤ (m1 *ℤ (m2 *ℤ u2))) (a *ℤ (m2 *ℤ (k1 *ℤ s))) (b *ℤ (m1 *ℤ (k2 *ℤ s))))
  where
    first : (m1 *ℤ m2) *ℤ (a *ℤ u1) ≡ a *ℤ (m2 *ℤ (m1 *ℤ u1))
    first = mul-left_comm (m1 *ℤ m2) a u1 ∙ ap (λ z. a *ℤ z) (mul-assoc m1 m2 u1 ∙ mul-left_comm m1 m2 u1)

    second : (m1 *ℤ m2) *ℤ (b *ℤ u2) ≡ b *ℤ (m1 *ℤ (m2 *ℤ u2))
    second = mul-left_comm (m1 *ℤ m2) b u2 ∙ ap (λ z. b *ℤ z) (mul-assoc m1 m2 u2)

    go : (c d f g : ℤ) → (c +ℤ d) -ℤ (f +ℤ g) ≡ (c -ℤ f) +ℤ (d -ℤ g)
    go c d f g = omega (arith, ints)

-- a point of a row between two others is their mean, and a common number is that of any mean
mean-across : (x1 x x2 o : ℤ) → ((x2 -ℤ x) +ℤ (x -ℤ x1)) *ℤ (x -ℤ o) ≡ (x2 -ℤ x) *ℤ (x1 -ℤ o) +ℤ (x -ℤ x1) *ℤ (x2 -ℤ o)
mean-across x1 x x2 o =
    let one : x1 -ℤ o ≡ (x -ℤ o) -ℤ (x -ℤ x1) = omega (arith, ints) in
    let two : x2 -ℤ o ≡ (x -ℤ o) +ℤ (x2 -ℤ x) = omega (arith, ints) in
    rw (one, two) (go (x2 -ℤ x) (x -ℤ x1) (x -ℤ o))
  where
    sums : (c d f : ℤ) → c +ℤ d ≡ (c -ℤ f) +ℤ (d +ℤ f)
    sums c d f = omega (arith, ints)

    go : (a b u : ℤ) → (a +ℤ b) *ℤ u ≡ a *ℤ (u -ℤ b) +ℤ b *ℤ (u +ℤ a)
    go a b u = rw (add-mul a b u, mul-sub a u b, mul-add b u a, mul-comm b a) (sums (a *ℤ u) (b *ℤ u) (a *ℤ b))

-- a multiple of what is near is near, by as much
scaled : (n m x v r : ℤ) → (square x +ℤ square v) ≤ℤ square (m *ℤ r) → (square (n *ℤ x) +ℤ square (n *ℤ v)) ≤ℤ square ((n *ℤ m) *ℤ r)
scaled n m x v r h = rw (square-mul n x, square-mul n v, ← mul-add (square n) (square x) (square v), mul-assoc n m r, square-mul n (m *ℤ r))
    (times (square n) (square x +ℤ square v) (square (m *ℤ r)) (square-nonneg n) h)

product-pos : (a b : ℤ) → pos 0 <ℤ a → pos 0 <ℤ b → pos 0 <ℤ (a *ℤ b)
product-pos a b p q = omega (arith, ints, product_negative (neg_ℤ a) b (omega (arith, ints)) q, neg-mul a b)

pub rows-law : RoundRowsAreRuns
rows-law w e x1 x x2 y p q h g = go (int_lt (pos 0) ((x2 -ℤ x) +ℤ (x -ℤ x1))) refl
  where
    a : ℤ
    a = x2 -ℤ x

    b : ℤ
    b = x -ℤ x1

    mean-near : (k1 m1 k2 m2 : ℤ) → pos 0 <ℤ (a +ℤ b) → IsNear w e (record { x = x1; y = y }) k1 m1 → IsNear w e (record { x = x2; y = y }) k2 m2 →
        IsNear w e (record { x = x; y = y }) (a *ℤ (m2 *ℤ k1) +ℤ b *ℤ (m1 *ℤ k2)) ((m1 *ℤ m2) *ℤ (a +ℤ b))
    mean-near k1 m1 k2 m2 wide one two =
        let least1 = product_nonneg m2 k1 (omega (arith, ints, two.some)) one.least in
        let least2 = product_nonneg m1 k2 (omega (arith, ints, one.some)) two.least in
        let most1 = times a (m2 *ℤ k1) (m1 *ℤ m2) (omega (arith, ints)) (rw (mul-comm m1 m2) (times m2 k1 m1 (omega (arith, ints, two.some)) one.most)) in
        let most2 = times b (m1 *ℤ k2) (m1 *ℤ m2) (omega (arith, ints)) (times m1 k2 m2 (omega (arith, ints, one.some)) two.most) in
        let r = pos (8 * w) in
        let s = e.to.x -ℤ e.from.x in
        let t = e.to.y -ℤ e.from.y in
        let u1 = x1 -ℤ e.from.x in
        let u2 = x2 -ℤ e.from.x in
        let v = y -ℤ e.from.y in
        let all = means a b (m2 *ℤ (m1 *ℤ u1 -ℤ k1 *ℤ s)) (m1 *ℤ (m2 *ℤ u2 -ℤ k2 *ℤ s)) (m2 *ℤ (m1 *ℤ v -ℤ k1 *ℤ t)) (m1 *ℤ (m2 *ℤ v -ℤ k2 *ℤ t))
        (square ((m1 *ℤ m2) *ℤ r)) (omega (arith, ints)) (omega (arith, ints))
        (rw (mul-comm m1 m2) (scaled m2 m1 (m1 *ℤ u1 -ℤ k1 *ℤ s) (m1 *ℤ v -ℤ k1 *ℤ t) r one.near))
        (scaled m1 m2 (m2 *ℤ u2 -ℤ k2 *ℤ s) (m2 *ℤ v -ℤ k2 *ℤ t) r two.near) in
        record {
          some = product-pos (m1 *ℤ m2) (a +ℤ b) (product-pos m1 m2 one.some two.some) wide;
          least = omega (arith, ints, product_nonneg a (m2 *ℤ k1) (omega (arith, ints)) least1, product_nonneg b (m1 *ℤ k2) (omega (arith, ints)) least2);
          most = rw (mul-add (m1 *ℤ m2) a b, mul-comm (m1 *ℤ m2) a, mul-comm (m1 *ℤ m2) b)
              (sums (a *ℤ (m2 *ℤ k1)) (b *ℤ (m1 *ℤ k2)) (a *ℤ (m1 *ℤ m2)) (b *ℤ (m1 *ℤ m2)) most1 most2);
          near = rw (
            mean-way a b (x -ℤ e.from.x) u1 u2 k1 m1 k2 m2 s (mean-across x1 x x2 e.from.x),
            mean-way a b v v v k1 m1 k2 m2 t (add-mul a b v),
            mul-comm (m1 *ℤ m2) (a +ℤ b),
            mul-assoc (a +ℤ b) (m1 *ℤ m2) r,
            square-mul (a +ℤ b) ((m1 *ℤ m2) *ℤ r),
          ) all;
        }
      where
        sums : (c d f g : ℤ) → c ≤ℤ f → d ≤ℤ g → (c +ℤ d) ≤ℤ (f +ℤ g)
        sums c d f g p q = omega (arith, ints)

    go : (n : Bool) → int_lt (pos 0) (a +ℤ b) ≡ n → covers_round w e (record { x = x; y = y }) ≡ true
    go true wide =
        let one = covered-near w e (record { x = x1; y = y }) h in
        let two = covered-near w e (record { x = x2; y = y }) g in
        near-covered w e (record { x = x; y = y }) (a *ℤ (two.1 *ℤ one.0) +ℤ b *ℤ (one.1 *ℤ two.0)) ((one.1 *ℤ two.1) *ℤ (a +ℤ b))
        (mean-near one.0 one.1 two.0 two.1 (lt_of (pos 0) (a +ℤ b) wide) one.2 two.2)
    go false none = let same : x ≡ x1 = omega (arith, ints, none) in rw same h
