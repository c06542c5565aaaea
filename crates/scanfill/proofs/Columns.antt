-- The column of an edge is the least that it crosses in.
use Rattle.std.proofs.Common.{◌≡◌, ◌∙◌, ℕ, ◌^◌, Bool, true, false, if◌then◌else◌, ◌+◌, refl, sym, ap, arith}
use Rattle.std.proofs.lemmas.Int.{ints}
use Rattle.std.specs.Int.{int_div_euclid}
use Rattle.std.specs.Prelude.{int_le}
use lib.IntN.{ℤ, pos, neg_ℤ, ◌+ℤ◌, ◌-ℤ◌, ◌*ℤ◌}
use lib.Signed.{◌≤ℤ◌}
use Rattle.geom.specs.Device.{IsDevicePoint, centre, pixel_centre}
use Rattle.geom.specs.Edge.{EdgeEnds, IsDeviceEdge, low_end, high_end, rise, run, crosses_at_or_left}
use Rattle.geom.specs.Range.{IsBelow}
use Rattle.geom.proofs.Products.{add-mul, sub-mul, le_of, mul-left_comm, not_le_of, is_le, same_order}
use Rattle.geom.proofs.Quotients.{least_from}
use Rattle.clip.specs.EdgeClass.{crosses_row}
use Rattle.clip.proofs.Sides.{crosses-rise, right-crosses, left-crosses}
use Rattle.scanfill.specs.Column.{column_of, reach, IsColumn}

-- the edge meets row j at the centre of column i or left of it where so many whole columns and its reach are no less than 0
meets-reach : (x y run rise c d i : ℤ) → c ≡ pos 16 *ℤ i +ℤ pos 8 →
    int_le ((d -ℤ y) *ℤ run) ((c -ℤ x) *ℤ rise) ≡ int_le (pos 0) (i *ℤ (pos 16 *ℤ rise) +ℤ ((pos 8 -ℤ x) *ℤ rise -ℤ (d -ℤ y) *ℤ run))
meets-reach x y run rise c d i e =
    let apart : c -ℤ x ≡ pos 16 *ℤ i +ℤ (pos 8 -ℤ x) = omega (arith, ints) in
    let times : (c -ℤ x) *ℤ rise ≡ i *ℤ (pos 16 *ℤ rise) +ℤ (pos 8 -ℤ x) *ℤ rise =
    rw apart (add-mul (pos 16 *ℤ i) (pos 8 -ℤ x) rise ∙ ap (λ z. z +ℤ (pos 8 -ℤ x) *ℤ rise) (sixteen i rise)) in
    rw times (same_order ((d -ℤ y) *ℤ run) (i *ℤ (pos 16 *ℤ rise) +ℤ (pos 8 -ℤ x) *ℤ rise) (pos 0) (i *ℤ (pos 16 *ℤ rise) +ℤ ((pos 8 -ℤ x) *ℤ rise -ℤ (d -ℤ y) *ℤ run))
    (λ (h : ((d -ℤ y) *ℤ run) ≤ℤ (i *ℤ (pos 16 *ℤ rise) +ℤ (pos 8 -ℤ x) *ℤ rise)). omega (arith, ints))
    (λ (h : pos 0 ≤ℤ (i *ℤ (pos 16 *ℤ rise) +ℤ ((pos 8 -ℤ x) *ℤ rise -ℤ (d -ℤ y) *ℤ run))). omega (arith, ints)))
  where
    sixteen : (i rise : ℤ) → (pos 16 *ℤ i) *ℤ rise ≡ i *ℤ (pos 16 *ℤ rise)
    sixteen i rise = let a = Rattle.geom.proofs.Products.mul-comm (pos 16 *ℤ i) rise in
        let b = mul-left_comm rise (pos 16) i in
        let c = mul-left_comm i (pos 16) rise in
        let d = Rattle.geom.proofs.Products.mul-comm rise i in
        a ∙ (b ∙ (rw d (sym c)))

-- an edge that crosses a row does so from its column on
pub crosses-from : (e : EdgeEnds) (j : ℕ) (i : ℤ) → crosses_row e j ≡ true → crosses_at_or_left (pixel_centre i (pos j)) e ≡ int_le (column_of e j) i
unfolding column_of
crosses-from e j i h =
    rw h (meets-reach (low_end e).x (low_end e).y (run e) (rise e) (centre i) (centre (pos j)) i refl
    ∙ least_from (reach e j) (pos 16 *ℤ rise e) i (let some = crosses-rise e (centre (pos j)) h in omega (arith, ints)))

-- so it is the least one
pub IsColumn-column_of : (e : EdgeEnds) (j : ℕ) → crosses_row e j ≡ true → IsColumn e j (column_of e j)
IsColumn-column_of e j h = record {
  at = crosses-from e j (column_of e j) h ∙ is_le (column_of e j) (column_of e j) (omega (arith, ints));
  least = λ i. crosses-from e j i h;
}

-- the ends of an edge are device points
pub ends-device : (e : EdgeEnds) → IsDeviceEdge e → IsDevicePoint (low_end e) × IsDevicePoint (high_end e)
ends-device e d = go (int_le e.from.y e.to.y)
  where
    go : (t : Bool) → IsDevicePoint (if t then e.from else e.to) × IsDevicePoint (if t then e.to else e.from)
    go true = (d.from, d.to)
    go false = (d.to, d.from)

-- the column lies between the edge's ends
pub column-below : (e : EdgeEnds) (j : ℕ) → IsDeviceEdge e → crosses_row e j ≡ true → IsBelow (2 ^ 44) (column_of e j)
column-below e j d h =
    let ends = ends-device e d in
    let right = pos (2 ^ 43) in
    let left = neg_ℤ (pos (2 ^ 43 + 1)) in
    let reaches : int_le (column_of e j) right ≡ true =
    sym (crosses-from e j right h)
    ∙ (left-crosses e (pixel_centre right (pos j)) (omega (arith, ints, ends.0.across)) (omega (arith, ints, ends.1.across)) ∙ h) in
    let misses : int_le (column_of e j) left ≡ false =
    sym (crosses-from e j left h)
    ∙ right-crosses e (pixel_centre left (pos j)) (omega (arith, ints, ends.0.across)) (omega (arith, ints, ends.1.across)) in
    record { above = omega (arith, ints, not_le_of (column_of e j) left misses); below = omega (arith, ints, le_of (column_of e j) right reaches) }

-- an upright edge has one column in all rows
pub upright-column : (e : EdgeEnds) (j k : ℕ) → run e ≡ pos 0 → column_of e j ≡ column_of e k
unfolding column_of
upright-column e j k upright = ap (λ r. neg_ℤ (int_div_euclid r (pos 16 *ℤ rise e))) (still j ∙ sym (still k))
  where
    still : (j : ℕ) → reach e j ≡ (pos 8 -ℤ (low_end e).x) *ℤ rise e
    still j =
        let none : (centre (pos j) -ℤ (low_end e).y) *ℤ run e ≡ pos 0 = rw upright (omega (arith, ints)) in
        omega (arith, ints, none)
