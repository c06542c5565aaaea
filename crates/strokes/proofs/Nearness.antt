-- The columns of a row whose centres lie near to a line.
use Rattle.std.proofs.Common.{◌≡◌, ◌∙◌, ℕ, ◌+◌, ◌*◌, ◌^◌, true, false, ◌&&◌, sym, ap, arith}
use Rattle.std.proofs.lemmas.Int.{ints}
use Rattle.std.specs.Prelude.{int_le, int_lt}
use lib.IntN.{ℤ, pos, negsuc, neg_ℤ, ◌+ℤ◌, ◌-ℤ◌, ◌*ℤ◌}
use lib.Signed.{◌≤ℤ◌}
use mir.Syntax.{w64, w128}
use mir.Val.{to_z, of_z}
use Rattle.geom.specs.Device.{centre, pixel_centre}
use Rattle.geom.specs.Edge.{EdgeEnds, low_end, rise, run}
use Rattle.geom.specs.Range.{IsBelow}
use Rattle.geom.proofs.Products.{add-mul, is_le, le_of, mul-comm, mul-neg, same_order, same_test}
use Rattle.geom.proofs.Products.{mul-left_comm}
use Rattle.scanfill.proofs.Words.{wide}
use Rattle.strokes.specs.Columns.{is_kept}
use Rattle.strokes.specs.Segment.{right_of, turned}
use Rattle.strokes.proofs.Keeping.{opposite-wide}

-- the tests of a distance t and a reach r, as i128 makes them
pub near-then : (r t b u : ℤ) → IsBelow (2 ^ 59) r → IsBelow (2 ^ 98) t → r ≡ b → t ≡ u →
    int_lt (to_z w128 (of_z w128 (pos 0 -ℤ to_z w128 (of_z w128 r)))) (to_z w128 (of_z w128 t)) ≡ true →
    int_le (to_z w128 (of_z w128 t)) (to_z w128 (of_z w128 r)) ≡ (int_lt (neg_ℤ b) u && int_le u b)
near-then r t b u p q e f h =
    let least : int_lt (neg_ℤ r) t ≡ true = rw (opposite-wide r (record { above = omega (arith, ints); below = omega (arith, ints) }), wide (2 ^ 98) t (omega arith) q) at h in
    rw (wide (2 ^ 98) t (omega arith) q, wide (2 ^ 59) r (omega arith) p, ← e, ← f, least)

pub near-else : (r t b u : ℤ) → IsBelow (2 ^ 59) r → IsBelow (2 ^ 98) t → r ≡ b → t ≡ u →
    int_lt (to_z w128 (of_z w128 (pos 0 -ℤ to_z w128 (of_z w128 r)))) (to_z w128 (of_z w128 t)) ≡ false →
    int_lt (to_z w128 (of_z w128 (pos 0 -ℤ to_z w128 (of_z w128 r)))) (to_z w128 (of_z w128 t)) ≡ (int_lt (neg_ℤ b) u && int_le u b)
near-else r t b u p q e f h =
    let least : int_lt (neg_ℤ r) t ≡ false = rw (opposite-wide r (record { above = omega (arith, ints); below = omega (arith, ints) }), wide (2 ^ 98) t (omega arith) q) at h in
    rw (h, ← e, ← f, least)

-- right of the left end of what is near, as a number that isn't below 0
pub near-left : (i s r b : ℤ) → int_le (pos 0) (i *ℤ (pos 2 *ℤ s) +ℤ (pos 2 *ℤ r +ℤ b -ℤ pos 1)) ≡ int_lt (neg_ℤ b) (pos 2 *ℤ (i *ℤ s +ℤ r))
near-left i s r b = rw (mul-left_comm i (pos 2) s)
    (same_test (int_le (pos 0) (pos 2 *ℤ (i *ℤ s) +ℤ (pos 2 *ℤ r +ℤ b -ℤ pos 1))) (int_lt (neg_ℤ b) (pos 2 *ℤ (i *ℤ s +ℤ r)))
    (λ e. there (i *ℤ s) (le_of (pos 0) (pos 2 *ℤ (i *ℤ s) +ℤ (pos 2 *ℤ r +ℤ b -ℤ pos 1)) e))
    (λ e. is_le (pos 0) (pos 2 *ℤ (i *ℤ s) +ℤ (pos 2 *ℤ r +ℤ b -ℤ pos 1)) (back (i *ℤ s) e)))
  where
    there : (a : ℤ) → pos 0 ≤ℤ (pos 2 *ℤ a +ℤ (pos 2 *ℤ r +ℤ b -ℤ pos 1)) → int_lt (neg_ℤ b) (pos 2 *ℤ (a +ℤ r)) ≡ true
    there a h = sym (omega (arith, ints))

    back : (a : ℤ) → int_lt (neg_ℤ b) (pos 2 *ℤ (a +ℤ r)) ≡ true → pos 0 ≤ℤ (pos 2 *ℤ a +ℤ (pos 2 *ℤ r +ℤ b -ℤ pos 1))
    back a e = omega (arith, ints)

-- and left of its right end
pub near-right : (i s r b : ℤ) → int_le (pos 0) (i *ℤ neg_ℤ (pos 2 *ℤ s) +ℤ (b -ℤ pos 2 *ℤ r)) ≡ int_le (pos 2 *ℤ (i *ℤ s +ℤ r)) b
near-right i s r b = rw (mul-neg i (pos 2 *ℤ s), mul-left_comm i (pos 2) s) (go (i *ℤ s))
  where
    go : (a : ℤ) → int_le (pos 0) (neg_ℤ (pos 2 *ℤ a) +ℤ (b -ℤ pos 2 *ℤ r)) ≡ int_le (pos 2 *ℤ (a +ℤ r)) b
    go a = same_order (pos 0) (neg_ℤ (pos 2 *ℤ a) +ℤ (b -ℤ pos 2 *ℤ r)) (pos 2 *ℤ (a +ℤ r)) b (λ h. omega (arith, ints)) (λ h. omega (arith, ints))

-- what i64 and i128 hold of the scales and offsets
pub scale-is : (s : ℤ) → IsBelow (2 ^ 52) s → to_z w64 (of_z w64 (pos 2 *ℤ to_z w64 (of_z w64 s))) ≡ pos 2 *ℤ s
scale-is s h = omega (arith, ints)

pub fall-is : (s : ℤ) → IsBelow (2 ^ 52) s → to_z w64 (of_z w64 (negsuc 1 *ℤ to_z w64 (of_z w64 s))) ≡ neg_ℤ (pos 2 *ℤ s)
fall-is s h = omega (arith, ints)

-- the columns of a turned segment lie between its ends
pub after-low : (i : ℕ) (y : ℤ) → is_kept (pos 16) (pos 8 -ℤ y) i ≡ int_le y (pos (16 * i + 8))
after-low i y = same_order (pos 0) (pos i *ℤ pos 16 +ℤ (pos 8 -ℤ y)) y (pos (16 * i + 8)) (λ h. omega (arith, ints)) (λ h. omega (arith, ints))

pub before-high : (i : ℕ) (y : ℤ) → is_kept (negsuc 15) (y -ℤ pos 8) i ≡ int_le (pos (16 * i + 8)) y
before-high i y = same_order (pos 0) (pos i *ℤ negsuc 15 +ℤ (y -ℤ pos 8)) (pos (16 * i + 8)) y (λ h. omega (arith, ints)) (λ h. omega (arith, ints))

-- how far the centres of column i lie right of a line at some height, by those of column 0
pub right-across : (e : EdgeEnds) (i y : ℤ) → i *ℤ (pos 16 *ℤ rise e) +ℤ right_of e (record { x = centre (pos 0); y = y }) ≡ right_of e (record { x = centre i; y = y })
right-across e i y = go i (low_end e).x (rise e) ((y -ℤ (low_end e).y) *ℤ run e)
  where
    go : (i x r d : ℤ) → i *ℤ (pos 16 *ℤ r) +ℤ ((pos 8 -ℤ x) *ℤ r -ℤ d) ≡ (pos 16 *ℤ i +ℤ pos 8 -ℤ x) *ℤ r -ℤ d
    go i x r d =
        let apart : pos 16 *ℤ i +ℤ pos 8 -ℤ x ≡ pos 16 *ℤ i +ℤ (pos 8 -ℤ x) = omega (arith, ints) in
        let sixteen : (pos 16 *ℤ i) *ℤ r ≡ i *ℤ (pos 16 *ℤ r) = mul-comm (pos 16 *ℤ i) r ∙ (mul-left_comm r (pos 16) i ∙ (ap (λ z. pos 16 *ℤ z) (mul-comm r i) ∙ mul-left_comm (pos 16) i r)) in
        rw (apart, add-mul (pos 16 *ℤ i) (pos 8 -ℤ x) r, sixteen) (omega (arith, ints))

pub right-steep : (e : EdgeEnds) (i j : ℤ) → i *ℤ (pos 16 *ℤ rise e) +ℤ right_of e (pixel_centre (pos 0) j) ≡ right_of e (pixel_centre i j)
right-steep e i j = right-across e i (centre j)

-- the same of a turned segment
pub right-flat : (e : EdgeEnds) (i j : ℕ) →
    pos i *ℤ neg_ℤ (pos 16 *ℤ run e) +ℤ right_of e (turned (pixel_centre (pos 0) (pos j))) ≡ right_of e (turned (pixel_centre (pos i) (pos j)))
right-flat e i j = go (pos i) (low_end e).y (run e) ((centre (pos j) -ℤ (low_end e).x) *ℤ rise e)
  where
    go : (i y s d : ℤ) → i *ℤ neg_ℤ (pos 16 *ℤ s) +ℤ (d -ℤ (pos 8 -ℤ y) *ℤ s) ≡ d -ℤ (pos 16 *ℤ i +ℤ pos 8 -ℤ y) *ℤ s
    go i y s d =
        let apart : pos 16 *ℤ i +ℤ pos 8 -ℤ y ≡ pos 16 *ℤ i +ℤ (pos 8 -ℤ y) = omega (arith, ints) in
        let sixteen : (pos 16 *ℤ i) *ℤ s ≡ i *ℤ (pos 16 *ℤ s) = mul-comm (pos 16 *ℤ i) s ∙ (mul-left_comm s (pos 16) i ∙ (ap (λ z. pos 16 *ℤ z) (mul-comm s i) ∙ mul-left_comm (pos 16) i s)) in
        rw (apart, add-mul (pos 16 *ℤ i) (pos 8 -ℤ y) s, sixteen, mul-neg i (pos 16 *ℤ s)) (omega (arith, ints))

pub offset_left-is : (t r : ℤ) → IsBelow (2 ^ 98) t → IsBelow (2 ^ 59) r →
    to_z w128 (of_z w128 (to_z w128 (of_z w128 (to_z w128 (of_z w128 t) +ℤ to_z w128 (of_z w128 r))) -ℤ pos 1)) ≡ t +ℤ r -ℤ pos 1
offset_left-is t r p q = omega (arith, ints)

pub offset_right-is : (t r : ℤ) → IsBelow (2 ^ 98) t → IsBelow (2 ^ 59) r → to_z w128 (of_z w128 (to_z w128 (of_z w128 r) -ℤ to_z w128 (of_z w128 t))) ≡ r -ℤ t
offset_right-is t r p q = omega (arith, ints)
