-- How an edge's crossing moves from row to row.
use Rattle.std.proofs.Common.{◌≡◌, ◌∙◌, ℕ, ◌+◌, Bool, true, false, refl, sym, arith}
use Rattle.std.proofs.lemmas.Int.{ints}
use Rattle.std.specs.Int.{int_div_euclid}
use Rattle.std.specs.Prelude.{int_lt}
use lib.IntN.{ℤ, pos, neg_ℤ, ◌+ℤ◌, ◌-ℤ◌, ◌*ℤ◌}
use lib.Signed.{◌<ℤ◌, ◌≤ℤ◌}
use Rattle.geom.specs.Device.{centre}
use Rattle.geom.specs.Edge.{EdgeEnds, low_end, rise, run}
use Rattle.geom.proofs.Products.{add-mul, mul-left_comm, mul-sub, sub-mul}
use Rattle.scanfill.specs.Column.{column_of, reach}
use Rattle.scanfill.specs.Walk.{next_crossing, over_of, crossing_at, slope_of}
use Rattle.scanfill.specs.declared.row_crossing.RowCrossing.{RowCrossing}
use Rattle.scanfill.specs.declared.row_crossing.Slope.{Slope}
use Rattle.scanfill.proofs.Quotients.{left-parts, quotient-fewer, quotient-same}

-- the next crossing, by whether the remainder covers the slope's rest
pub next-fewer : (place : RowCrossing) (slope : Slope) → place.over <ℤ slope.rest →
    next_crossing place slope ≡ record { column = place.column +ℤ slope.step +ℤ pos 1; over = place.over -ℤ slope.rest +ℤ slope.whole }
next-fewer place slope h = let e : int_lt place.over slope.rest ≡ true = sym (omega (arith, ints)) in rw e

pub next-same : (place : RowCrossing) (slope : Slope) → slope.rest ≤ℤ place.over →
    next_crossing place slope ≡ record { column = place.column +ℤ slope.step; over = place.over -ℤ slope.rest }
next-same place slope h = let e : int_lt place.over slope.rest ≡ false = sym (omega (arith, ints)) in rw e

-- one row further down the reach is less by the slope
reach-next : (e : EdgeEnds) (j : ℕ) → let s = int_div_euclid (run e) (rise e) in
    reach e (j + 1) ≡ reach e j -ℤ (s *ℤ (pos 16 *ℤ rise e) +ℤ pos 16 *ℤ (run e -ℤ s *ℤ rise e))
reach-next e j =
    let s = int_div_euclid (run e) (rise e) in
    let down : centre (pos (j + 1)) -ℤ (low_end e).y ≡ (centre (pos j) -ℤ (low_end e).y) +ℤ pos 16 = omega (arith, ints) in
    rw (down, add-mul (centre (pos j) -ℤ (low_end e).y) (pos 16) (run e), mul-left_comm s (pos 16) (rise e), mul-sub (pos 16) (run e) (s *ℤ rise e))
    (omega (arith, ints))

-- two crossings with the same column and rest are the same
place-same : (a b c d : ℤ) → a ≡ c → b ≡ d → ◌≡◌ {A = RowCrossing} record { column = a; over = b } record { column = c; over = d }
place-same a b c d e f = rw (e, f)

-- the parts of the next crossing, for a reach m and the next one
column-fewer : (q s next : ℤ) → next ≡ q -ℤ s -ℤ pos 1 → neg_ℤ q +ℤ s +ℤ pos 1 ≡ neg_ℤ next
column-fewer q s next e = omega (arith, ints)

column-same : (q s next : ℤ) → next ≡ q -ℤ s → neg_ℤ q +ℤ s ≡ neg_ℤ next
column-same q s next e = omega (arith, ints)

over-fewer : (m k q s rest n next : ℤ) → n ≡ m -ℤ (s *ℤ k +ℤ rest) → next ≡ q -ℤ s -ℤ pos 1 → m -ℤ q *ℤ k -ℤ rest +ℤ k ≡ n -ℤ next *ℤ k
over-fewer m k q s rest n next e f =
    let times : (q -ℤ s -ℤ pos 1) *ℤ k ≡ q *ℤ k -ℤ s *ℤ k -ℤ k = sub-mul (q -ℤ s) (pos 1) k ∙ rw (sub-mul q s k) (omega (arith, ints)) in
    rw (e, f, times) (omega (arith, ints))

over-same : (m k q s rest n next : ℤ) → n ≡ m -ℤ (s *ℤ k +ℤ rest) → next ≡ q -ℤ s → m -ℤ q *ℤ k -ℤ rest ≡ n -ℤ next *ℤ k
over-same m k q s rest n next e f = rw (e, f, sub-mul q s k) (omega (arith, ints))

-- the slope's rest is from 0 to below a whole column
rest-parts : (e : EdgeEnds) → pos 0 <ℤ rise e → let rest = pos 16 *ℤ (run e -ℤ int_div_euclid (run e) (rise e) *ℤ rise e) in
    (pos 0 ≤ℤ rest) × (rest <ℤ (pos 16 *ℤ rise e))
rest-parts e some = let parts = left-parts (run e) (rise e) some in (omega (arith, ints, parts.0), omega (arith, ints, parts.1))

-- the next crossing is that of the next row
pub next_crossing-at : (e : EdgeEnds) (j : ℕ) → pos 0 <ℤ rise e → next_crossing (crossing_at e j) (slope_of e) ≡ crossing_at e (j + 1)
unfolding column_of over_of slope_of
next_crossing-at e j some = go (int_lt (reach e j -ℤ int_div_euclid (reach e j) (pos 16 *ℤ rise e) *ℤ (pos 16 *ℤ rise e)) (pos 16 *ℤ (run e -ℤ int_div_euclid (run e) (rise e) *ℤ rise e))) refl
  where
    go : (t : Bool) → int_lt (reach e j -ℤ int_div_euclid (reach e j) (pos 16 *ℤ rise e) *ℤ (pos 16 *ℤ rise e)) (pos 16 *ℤ (run e -ℤ int_div_euclid (run e) (rise e) *ℤ rise e)) ≡ t →
        next_crossing (crossing_at e j) (slope_of e) ≡ crossing_at e (j + 1)
    go true h =
        let m = reach e j in
        let k = pos 16 *ℤ rise e in
        let q = int_div_euclid m k in
        let s = int_div_euclid (run e) (rise e) in
        let rest = pos 16 *ℤ (run e -ℤ s *ℤ rise e) in
        let positive : pos 0 <ℤ k = omega (arith, ints) in
        let parts = rest-parts e some in
        let next = reach-next e j in
        let short : (m -ℤ q *ℤ k) <ℤ rest = omega (arith, ints) in
        let fewer = quotient-fewer m k s rest (reach e (j + 1)) positive parts.0 parts.1 next short in
        next-fewer (crossing_at e j) (slope_of e) short
        ∙ place-same _ _ _ _ (column-fewer q s (int_div_euclid (reach e (j + 1)) k) fewer) (over-fewer m k q s rest (reach e (j + 1)) (int_div_euclid (reach e (j + 1)) k) next fewer)
    go false h =
        let m = reach e j in
        let k = pos 16 *ℤ rise e in
        let q = int_div_euclid m k in
        let s = int_div_euclid (run e) (rise e) in
        let rest = pos 16 *ℤ (run e -ℤ s *ℤ rise e) in
        let positive : pos 0 <ℤ k = omega (arith, ints) in
        let parts = rest-parts e some in
        let next = reach-next e j in
        let enough : rest ≤ℤ (m -ℤ q *ℤ k) = omega (arith, ints) in
        let same = quotient-same m k s rest (reach e (j + 1)) positive parts.0 parts.1 next enough in
        next-same (crossing_at e j) (slope_of e) enough
        ∙ place-same _ _ _ _ (column-same q s (int_div_euclid (reach e (j + 1)) k) same) (over-same m k q s rest (reach e (j + 1)) (int_div_euclid (reach e (j + 1)) k) next same)
