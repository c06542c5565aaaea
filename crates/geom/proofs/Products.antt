-- Products of whole numbers, and the tests of their order.
use Rattle.std.proofs.Common.{◌≡◌, ◌∙◌, ◌*◌, Bool, true, false, refl, ap, sym, arith}
use Rattle.std.proofs.lemmas.Int.{ints}
use Rattle.std.specs.Prelude.{int_le, int_lt}
use borrow.Author.Differences.{up, down, same_in, sum_is_lem, neg_is, product_is}
use lib.IntN.{ℤ, pos, negsuc, neg_ℤ, ◌+ℤ◌, ◌-ℤ◌, ◌*ℤ◌}
use lib.Signed.{◌<ℤ◌, ◌≤ℤ◌}

-- the factors may be exchanged
pub mul-comm : (a b : ℤ) → a *ℤ b ≡ b *ℤ a
mul-comm a b = omega (arith, ints)

-- a product with a sum, with an opposite and with a difference
pub mul-add : (u a b : ℤ) → u *ℤ (a +ℤ b) ≡ u *ℤ a +ℤ u *ℤ b
mul-add u a b = same_in _ _ (omega (arith, ints, ap (λ n. up u * n) (sum_is_lem a b), ap (λ n. down u * n) (sum_is_lem a b)))

pub mul-neg : (u a : ℤ) → u *ℤ neg_ℤ a ≡ neg_ℤ (u *ℤ a)
mul-neg u a = same_in _ _ (omega (
  arith,
  ints,
  ap (λ n. up u * n) (neg_is a).0,
  ap (λ n. up u * n) (neg_is a).1,
  ap (λ n. down u * n) (neg_is a).0,
  ap (λ n. down u * n) (neg_is a).1,
))

pub mul-sub : (u a b : ℤ) → u *ℤ (a -ℤ b) ≡ u *ℤ a -ℤ u *ℤ b
mul-sub u a b = mul-add u a (neg_ℤ b) ∙ ap (λ z. u *ℤ a +ℤ z) (mul-neg u b)

-- the same with the sum as the first factor
pub add-mul : (a b u : ℤ) → (a +ℤ b) *ℤ u ≡ a *ℤ u +ℤ b *ℤ u
add-mul a b u = mul-comm (a +ℤ b) u ∙ (mul-add u a b ∙ rw (mul-comm u a, mul-comm u b))

pub neg-mul : (a u : ℤ) → neg_ℤ a *ℤ u ≡ neg_ℤ (a *ℤ u)
neg-mul a u = mul-comm (neg_ℤ a) u ∙ (mul-neg u a ∙ rw (mul-comm u a))

pub sub-mul : (a b u : ℤ) → (a -ℤ b) *ℤ u ≡ a *ℤ u -ℤ b *ℤ u
sub-mul a b u = add-mul a (neg_ℤ b) u ∙ ap (λ z. a *ℤ u +ℤ z) (neg-mul b u)

-- a factor may be moved out
pub mul-left_comm : (s t r : ℤ) → s *ℤ (t *ℤ r) ≡ t *ℤ (s *ℤ r)
mul-left_comm s t r = same_in _ _ (omega (
  arith,
  ints,
  ap (λ n. up s * n) (product_is t r).0,
  ap (λ n. up s * n) (product_is t r).1,
  ap (λ n. down s * n) (product_is t r).0,
  ap (λ n. down s * n) (product_is t r).1,
  ap (λ n. up t * n) (product_is s r).0,
  ap (λ n. up t * n) (product_is s r).1,
  ap (λ n. down t * n) (product_is s r).0,
  ap (λ n. down t * n) (product_is s r).1,
))

-- signs of products
pub product_nonneg : (a b : ℤ) → pos 0 ≤ℤ a → pos 0 ≤ℤ b → pos 0 ≤ℤ (a *ℤ b)
product_nonneg (pos m) (pos n) p q = omega (arith, ints)
product_nonneg (pos m) (negsuc n) p q = absurd (omega (arith, ints))
product_nonneg (negsuc m) b p q = absurd (omega (arith, ints))

pub product_nonpos : (a b : ℤ) → a ≤ℤ pos 0 → pos 0 ≤ℤ b → (a *ℤ b) ≤ℤ pos 0
product_nonpos a b p q = omega (arith, ints, product_nonneg (neg_ℤ a) b (omega (arith, ints)) q, neg-mul a b)

pub product_negative : (a b : ℤ) → a <ℤ pos 0 → pos 0 <ℤ b → (a *ℤ b) <ℤ pos 0
product_negative (negsuc m) (pos n) p q = omega (arith, ints)
product_negative (negsuc m) (negsuc n) p q = absurd (omega (arith, ints))
product_negative (pos m) b p q = absurd (omega (arith, ints))

-- what a test of two numbers says, and when it says so
pub le_of : (a b : ℤ) → int_le a b ≡ true → a ≤ℤ b
le_of a b e = omega (arith, ints)

pub not_le_of : (a b : ℤ) → int_le a b ≡ false → b <ℤ a
not_le_of a b e = omega (arith, ints)

pub is_le : (a b : ℤ) → a ≤ℤ b → int_le a b ≡ true
is_le a b h = sym (omega (arith, ints))

pub lt_of : (a b : ℤ) → int_lt a b ≡ true → a <ℤ b
lt_of a b e = omega (arith, ints)

pub is_lt : (a b : ℤ) → a <ℤ b → int_lt a b ≡ true
is_lt a b h = sym (omega (arith, ints))

pub is_not_le : (a b : ℤ) → b <ℤ a → int_le a b ≡ false
is_not_le a b h = sym (omega (arith, ints))

-- two tests that pass for the same reason are one
pub same_test : (s t : Bool) → (s ≡ true → t ≡ true) → (t ≡ true → s ≡ true) → s ≡ t
same_test true t f g = sym (f refl)
same_test false true f g = g refl
same_test false false f g = refl

pub same_order : (a b c d : ℤ) → ((a ≤ℤ b) → c ≤ℤ d) → ((c ≤ℤ d) → a ≤ℤ b) → int_le a b ≡ int_le c d
same_order a b c d f g = same_test (int_le a b) (int_le c d) (λ e. is_le c d (f (le_of a b e))) (λ e. is_le a b (g (le_of c d e)))
