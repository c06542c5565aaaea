-- Squares of whole numbers, and of the distances of points.
use Rattle.std.proofs.Common.{◌≡◌, ◌∙◌, Bool, true, false, refl, sym, ap, arith}
use Rattle.std.proofs.lemmas.Int.{ints}
use Rattle.std.specs.Prelude.{int_le}
use lib.IntN.{ℤ, pos, negsuc, neg_ℤ, ◌+ℤ◌, ◌-ℤ◌, ◌*ℤ◌}
use lib.Signed.{◌<ℤ◌, ◌≤ℤ◌}
use Rattle.geom.proofs.Products.{add-mul, le_of, mul-add, mul-comm, mul-left_comm, mul-neg, mul-sub, neg-mul, not_le_of, product_negative, product_nonneg, sub-mul}
use Rattle.strokes.specs.Round.{square}

pub mul-assoc : (a b c : ℤ) → (a *ℤ b) *ℤ c ≡ a *ℤ (b *ℤ c)
mul-assoc a b c = mul-comm (a *ℤ b) c ∙ (mul-left_comm c a b ∙ ap (λ z. a *ℤ z) (mul-comm c b))

-- a square is no less than 0
pub square-nonneg : (a : ℤ) → pos 0 ≤ℤ square a
square-nonneg (pos n) = omega (arith, ints)
square-nonneg (negsuc n) = omega (arith, ints)

-- the squares of a sum, a difference and a product
pub square-add : (a b : ℤ) → square (a +ℤ b) ≡ square a +ℤ pos 2 *ℤ (a *ℤ b) +ℤ square b
square-add a b = rw (add-mul a b (a +ℤ b), mul-add a a b, mul-add b a b, mul-comm b a) (go (a *ℤ a) (a *ℤ b) (b *ℤ b))
  where
    go : (s t u : ℤ) → (s +ℤ t) +ℤ (t +ℤ u) ≡ s +ℤ pos 2 *ℤ t +ℤ u
    go s t u = omega (arith, ints)

pub square-neg : (a : ℤ) → square (neg_ℤ a) ≡ square a
square-neg a = rw (neg-mul a (neg_ℤ a), mul-neg a a) (go (a *ℤ a))
  where
    go : (s : ℤ) → neg_ℤ (neg_ℤ s) ≡ s
    go s = omega (arith, ints)

pub square-sub : (a b : ℤ) → square (a -ℤ b) ≡ square a -ℤ pos 2 *ℤ (a *ℤ b) +ℤ square b
square-sub a b = square-add a (neg_ℤ b) ∙ rw (square-neg b, mul-neg a b) (go (a *ℤ a) (a *ℤ b) (b *ℤ b))
  where
    go : (s t u : ℤ) → s +ℤ pos 2 *ℤ neg_ℤ t +ℤ u ≡ s -ℤ pos 2 *ℤ t +ℤ u
    go s t u = omega (arith, ints)

pub square-mul : (a b : ℤ) → square (a *ℤ b) ≡ square a *ℤ square b
square-mul a b = mul-assoc a b (a *ℤ b) ∙ (ap (λ z. a *ℤ z) (mul-left_comm b a b) ∙ sym (mul-assoc a a (b *ℤ b)))

-- the products of two pairs of factors, exchanged
pub exchanged : (a b c d : ℤ) → (a *ℤ b) *ℤ (c *ℤ d) ≡ (a *ℤ c) *ℤ (b *ℤ d)
exchanged a b c d = mul-assoc a b (c *ℤ d) ∙ (ap (λ z. a *ℤ z) (mul-left_comm b c d) ∙ sym (mul-assoc a c (b *ℤ d)))

-- a number that is above 0 may be taken out of both sides of an order
pub cancel : (k a b : ℤ) → pos 0 <ℤ k → (k *ℤ a) ≤ℤ (k *ℤ b) → a ≤ℤ b
cancel k a b some h = go (int_le a b) refl
  where
    go : (t : Bool) → int_le a b ≡ t → a ≤ℤ b
    go true e = le_of a b e
    go false e = absurd (omega (arith, ints, h, product_negative (b -ℤ a) k (omega (arith, ints, not_le_of a b e)) some, sub-mul b a k, mul-comm a k, mul-comm b k))

pub times : (k a b : ℤ) → pos 0 ≤ℤ k → a ≤ℤ b → (k *ℤ a) ≤ℤ (k *ℤ b)
times k a b some h = omega (arith, ints, product_nonneg k (b -ℤ a) some (omega (arith, ints)), mul-sub k b a)

-- along and aside, squared, are the product of the two squares of lengths
pub lagrange : (u v s t : ℤ) → square (u *ℤ s +ℤ v *ℤ t) +ℤ square (v *ℤ s -ℤ u *ℤ t) ≡ (square u +ℤ square v) *ℤ (square s +ℤ square t)
lagrange u v s t = rw (
  square-add (u *ℤ s) (v *ℤ t),
  square-sub (v *ℤ s) (u *ℤ t),
  square-mul u s,
  square-mul v t,
  square-mul v s,
  square-mul u t,
  add-mul (square u) (square v) (square s +ℤ square t),
  mul-add (square u) (square s) (square t),
  mul-add (square v) (square s) (square t),
  same,
) (go (square u *ℤ square s) (square u *ℤ square t) (square v *ℤ square s) (square v *ℤ square t) ((v *ℤ s) *ℤ (u *ℤ t)))
  where
    same : (u *ℤ s) *ℤ (v *ℤ t) ≡ (v *ℤ s) *ℤ (u *ℤ t)
    same = exchanged u s v t ∙ (ap (λ z. z *ℤ (s *ℤ t)) (mul-comm u v) ∙ exchanged v u s t)

    go : (a b c d x : ℤ) → (a +ℤ pos 2 *ℤ x +ℤ d) +ℤ (c -ℤ pos 2 *ℤ x +ℤ b) ≡ (a +ℤ b) +ℤ (c +ℤ d)
    go a b c d x = omega (arith, ints)
