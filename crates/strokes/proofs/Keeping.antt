-- Columns in which a number that grows or falls by steps is no less than 0.
use Rattle.std.proofs.Common.{◌≡◌, ◌∙◌, ℕ, ◌^◌, ◌<◌, ◌≤◌, min, Bool, true, false, ◌&&◌, refl, sym, ap, arith, ⊎_elim}
use Rattle.std.proofs.lemmas.Bool.{and_from, and_parts, cases_lt, lt-ltb, le-ltb, leb-true, ltb-true, le-leb}
use Rattle.std.proofs.lemmas.Int.{ints}
use Rattle.std.specs.Int.{int_div_euclid}
use Rattle.std.specs.Prelude.{int_le, nat_le, nat_lt}
use lib.IntN.{ℤ, pos, negsuc, neg_ℤ, ◌+ℤ◌, ◌-ℤ◌, ◌*ℤ◌}
use lib.Signed.{◌<ℤ◌, ◌≤ℤ◌}
use mir.Syntax.{w64, w128}
use mir.Val.{to_z, of_z}
use Rattle.geom.specs.Range.{IsBelow}
use Rattle.geom.proofs.Products.{le_of, mul-neg, product_nonneg, sub-mul, same_order, same_test}
use Rattle.geom.proofs.Quotients.{at_most-by_product, least_from, quotient_parts}
use Rattle.clip.specs.EdgeClass.{at_least_zero}
use Rattle.clip.proofs.Rowed.{cut-at_most}
use Rattle.scanfill.specs.declared.span.Span.{Span}
use Rattle.scanfill.specs.Runs.{has_column}
use Rattle.strokes.specs.Columns.{is_kept}

-- nothing is both
pub none : (t : Bool) → (t && false) ≡ false
none true = refl
none false = refl

-- so many times -k and m are no less than 0 up to the quotient
pub most_to : (m k i : ℤ) → pos 0 <ℤ k → int_le (pos 0) (i *ℤ neg_ℤ k +ℤ m) ≡ int_le i (int_div_euclid m k)
most_to m k i h =
    let q = int_div_euclid m k in
    let parts = quotient_parts m k h in
    same_order (pos 0) (i *ℤ neg_ℤ k +ℤ m) i q
    (λ (some : pos 0 ≤ℤ (i *ℤ neg_ℤ k +ℤ m)). at_most-by_product i q k h (omega (arith, ints, parts.1, mul-neg i k)))
    (λ (most : i ≤ℤ q).
    let apart = product_nonneg (q -ℤ i) k (omega (arith, ints)) (omega (arith, ints)) in
    omega (arith, ints, parts.0, mul-neg i k, sub-mul q i k))

-- a column from the greater of two on is from both on
two-least : (a b i : ℕ) (t u : Bool) → nat_le b i ≡ u → (c : ℕ) → a ≤ c → b ≤ c → ((a ≤ i) → (b ≤ i) → c ≤ i) → (nat_le c i && t) ≡ ((nat_le a i && t) && u)
two-least a b i true u e c p q r = same_test (nat_le c i && true) ((nat_le a i && true) && u)
    (λ s.
    let le = leb-true c i (and_parts (nat_le c i) true s).0 in
    and_from (nat_le a i && true) u (and_from (nat_le a i) true (le-leb a i (omega arith)) refl) (sym e ∙ le-leb b i (omega arith)))
    (λ s.
    let both = and_parts (nat_le a i && true) u s in
    let first = leb-true a i (and_parts (nat_le a i) true both.0).0 in
    and_from (nat_le c i) true (le-leb c i (r first (leb-true b i (e ∙ both.1)))) refl)
two-least a b i false u e c p q r = none (nat_le c i) ∙ sym (ap (λ t. t && u) (none (nat_le a i)))

-- where the scale is above 0 the columns are kept from one on
pub kept-from : (span : Span) (scale offset : ℤ) (least from : ℕ) → pos 0 <ℤ scale → least ≡ min (at_least_zero (neg_ℤ (int_div_euclid offset scale))) span.to →
    span.from ≤ from → least ≤ from → ((i : ℕ) → span.from ≤ i → least ≤ i → from ≤ i) →
    (i : ℕ) → has_column (record { from = from; to = span.to }) i ≡ (has_column span i && is_kept scale offset i)
kept-from span scale offset least from some is first second both i = ⊎_elim
    (λ (lt : i < span.to). two-least span.from least i (nat_lt i span.to) (is_kept scale offset i)
    (ap (λ n. nat_le n i) is ∙ (cut-at_most (neg_ℤ (int_div_euclid offset scale)) span.to i lt ∙ sym (least_from offset scale (pos i) some)))
    from first second (both i))
    (λ (ge : span.to ≤ i). rw (le-ltb i span.to ge) (none (nat_le from i) ∙ sym (ap (λ t. t && is_kept scale offset i) (none (nat_le span.from i)))))
    (cases_lt i span.to)

-- a column is before one where it isn't from it on
pub before : (n i : ℕ) (q : ℤ) (end : ℕ) → i < end → n ≡ min (at_least_zero (q +ℤ pos 1)) end → nat_lt i n ≡ int_le (pos i) q
before n i q end h is = same_test (nat_lt i n) (int_le (pos i) q)
    (λ e. sym (omega (arith, ints, ltb-true i n e, cut-lt (q +ℤ pos 1) end i (omega (arith, ltb-true i n e)))))
    (λ e. lt-ltb i n (omega (arith, lt-cut (q +ℤ pos 1) end i h (next (le_of (pos i) q e)))))
  where
    next : pos i ≤ℤ q → pos i <ℤ (q +ℤ pos 1)
    next e = omega (arith, ints)

    cut-lt : (z : ℤ) (end i : ℕ) → i < min (at_least_zero z) end → pos i <ℤ z
    cut-lt (pos m) end i h = omega (arith, ints)
    cut-lt (negsuc m) end i h = absurd (omega arith)

    lt-cut : (z : ℤ) (end i : ℕ) → i < end → pos i <ℤ z → i < min (at_least_zero z) end
    lt-cut (pos m) end i h e = omega (arith, ints)
    lt-cut (negsuc m) end i h e = absurd (omega (arith, ints))

pub and-swap : (t u v : Bool) → (t && (u && v)) ≡ ((t && u) && v)
and-swap true u v = refl
and-swap false u v = refl

-- where it is below 0 they are kept up to one
pub kept-to : (span : Span) (scale offset : ℤ) (past : ℕ) → pos 0 <ℤ scale → past ≡ min (at_least_zero (int_div_euclid offset scale +ℤ pos 1)) span.to →
    (i : ℕ) → has_column (record { from = span.from; to = past }) i ≡ (has_column span i && is_kept (neg_ℤ scale) offset i)
kept-to span scale offset past some is i = ⊎_elim
    (λ (lt : i < span.to). rw (
      lt-ltb i span.to lt,
      most_to offset scale (pos i) some,
      before past i (int_div_euclid offset scale) span.to lt is,
    ) (and-swap (nat_le span.from i) true (int_le (pos i) (int_div_euclid offset scale))))
    (λ (ge : span.to ≤ i). rw (le-ltb i span.to ge, le-ltb i past (omega arith)) (none (nat_le span.from i) ∙ sym (ap (λ t. t && is_kept (neg_ℤ scale) offset i) (none (nat_le span.from i)))))
    (cases_lt i span.to)

-- what i128 and i64 hold of opposites and of the number after a quotient
pub opposite-wide : (q : ℤ) → IsBelow (2 ^ 100) q → to_z w128 (of_z w128 (pos 0 -ℤ to_z w128 (of_z w128 q))) ≡ neg_ℤ q
opposite-wide q h = omega (arith, ints)

pub opposite-word : (k : ℤ) → IsBelow (2 ^ 54) k → to_z w64 (of_z w64 (pos 0 -ℤ to_z w64 (of_z w64 k))) ≡ neg_ℤ k
opposite-word k h = omega (arith, ints)

pub next-wide : (q : ℤ) → IsBelow (2 ^ 100) q → to_z w128 (of_z w128 (to_z w128 (of_z w128 q) +ℤ pos 1)) ≡ q +ℤ pos 1
next-wide q h = omega (arith, ints)
