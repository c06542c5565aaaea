-- Where a pixmap lies on the picture.
use Rattle.std.proofs.Common.{◌≡◌, ◌∙◌, suc, ℕ, List, [], ◌∷◌, length, take, drop, ◌+◌, ◌*◌, ◌/◌, ◌<◌, ◌≤◌, ◌-◌, min, true, false, ◌&&◌, if◌then◌else◌, None, Some, Option, refl, sym, ap, arith, ⊎_elim}
use Rattle.std.proofs.lemmas.Bool.{and_parts, and_right, cases_lt, le-leb, lt-leb}
use Rattle.std.proofs.lemmas.Int.{ints}
use Rattle.std.proofs.lemmas.List.{get_or-drop, get_or-take, length-drop, length-take}
use Rattle.std.proofs.lemmas.Nat.{row_fits}
use Rattle.std.proofs.Math.Nat.{mul_comm}
use Rattle.std.proofs.lemmas.Option.{cond_some, slice_get-get_or, slice_get_past}
use Rattle.std.specs.Prelude.{int_le, int_lt, slice_get}
use Rattle.std.specs.Option.{option_and_then}
use lib.IntN.{ℤ, pos, negsuc, ◌+ℤ◌, ◌-ℤ◌}
use lib.Signed.{◌≤ℤ◌, ◌<ℤ◌}
use Rattle.clip.specs.EdgeClass.{at_least_zero}
use Rattle.mapdefs.specs.declared.colour.Rgb.{Rgb}
use Rattle.scanfill.specs.declared.span.Span.{Span}
use Rattle.symbols.specs.Stamp.{StampValue, covers_pixel, is_coloured, pixel_at, pixel_from, position_on, skipped}

-- a column that doesn't lie on the pixmap has no pixel of it
pub no-column : (s : StampValue) (i j : ℤ) → position_on s.pixmap.width s.pixel.i i ≡ None → covers_pixel s i j ≡ false
unfolding covers_pixel
no-column s i j h =
    ap (λ p. is_coloured (option_and_then (λ column. option_and_then (λ row. slice_get s.pixmap.pixels (row * s.pixmap.width + column)) (position_on s.pixmap.height s.pixel.j j)) p)) h

-- nor has such a row
pub no-row : (s : StampValue) (i j : ℤ) → position_on s.pixmap.height s.pixel.j j ≡ None → covers_pixel s i j ≡ false
unfolding covers_pixel
no-row s i j h = rw h (go (position_on s.pixmap.width s.pixel.i i))
  where
    go : (p : Option ℕ) → is_coloured (option_and_then (λ column. option_and_then (λ row. slice_get s.pixmap.pixels (row * s.pixmap.width + column)) None) p) ≡ false
    go None = refl
    go (Some column) = refl

-- what comes before a side of the pixmap doesn't lie on it
pub before-side : (side : ℕ) (at : ℤ) (end i : ℕ) → i < min (at_least_zero (at -ℤ pos (side / 2))) end → position_on side at (pos i) ≡ None
before-side side at end i h = go (at -ℤ pos (side / 2)) h
  where
    go : (first : ℤ) → i < min (at_least_zero first) end →
        (if int_le (pos 0) (pos i -ℤ first) && int_lt (pos i -ℤ first) (pos side) then Some (at_least_zero (pos i -ℤ first)) else None) ≡ None
    go (pos n) h = let out : int_le (pos 0) (pos i -ℤ pos n) ≡ false = sym (omega (arith, ints)) in rw out
    go (negsuc n) h = absurd (omega arith)

-- nor does what comes after it
pub after-side : (side : ℕ) (at : ℤ) (end i : ℕ) → i < end → min (at_least_zero (at -ℤ pos (side / 2) +ℤ pos side)) end ≤ i → position_on side at (pos i) ≡ None
after-side side at end i below h = go (at -ℤ pos (side / 2)) h
  where
    past : (z : ℤ) → min (at_least_zero z) end ≤ i → z ≤ℤ pos i
    past (pos n) h = omega (arith, ints)
    past (negsuc n) h = omega (arith, ints)

    go : (first : ℤ) → min (at_least_zero (first +ℤ pos side)) end ≤ i →
        (if int_le (pos 0) (pos i -ℤ first) && int_lt (pos i -ℤ first) (pos side) then Some (at_least_zero (pos i -ℤ first)) else None) ≡ None
    go first h =
        let over = past (first +ℤ pos side) h in
        let out : int_lt (pos i -ℤ first) (pos side) ≡ false = sym (omega (arith, ints)) in
        rw (and_right (int_le (pos 0) (pos i -ℤ first)) (int_lt (pos i -ℤ first) (pos side)) out)

-- nothing is skipped where the side begins in the picture
none : (n : ℕ) → at_least_zero (pos 0 -ℤ pos n) ≡ 0
none n = go (pos 0 -ℤ pos n) (omega (arith, ints))
  where
    go : (z : ℤ) → z ≤ℤ pos 0 → at_least_zero z ≡ 0
    go (pos n) h = omega (arith, ints)
    go (negsuc n) h = refl

-- a number above 0 is one
up : (z : ℤ) → 0 < at_least_zero z → pos (at_least_zero z) ≡ z
up (pos n) h = refl
up (negsuc n) h = absurd (omega arith)

-- what comes between lies on that side of the pixmap, so far from its first column that is seen
pub on-side : (side : ℕ) (at : ℤ) (end i : ℕ) → min (at_least_zero (at -ℤ pos (side / 2))) end ≤ i → i < min (at_least_zero (at -ℤ pos (side / 2) +ℤ pos side)) end →
    position_on side at (pos i) ≡ Some (i - min (at_least_zero (at -ℤ pos (side / 2))) end + skipped side at)
on-side side at end i low high =
    let back : pos (side / 2) -ℤ at ≡ pos 0 -ℤ (at -ℤ pos (side / 2)) = omega (arith, ints) in
    rw back (go (at -ℤ pos (side / 2)) low (above (at -ℤ pos (side / 2) +ℤ pos side) high) (below (at_least_zero (at -ℤ pos (side / 2) +ℤ pos side)) high))
  where
    above : (z : ℤ) → i < min (at_least_zero z) end → pos i <ℤ z
    above (pos n) h = omega (arith, ints)
    above (negsuc n) h = absurd (omega arith)

    below : (n : ℕ) → i < min n end → i < end
    below n h = omega arith

    go : (first : ℤ) → min (at_least_zero first) end ≤ i → pos i <ℤ (first +ℤ pos side) → i < end →
        (if int_le (pos 0) (pos i -ℤ first) && int_lt (pos i -ℤ first) (pos side) then Some (at_least_zero (pos i -ℤ first)) else None)
        ≡ Some (i - min (at_least_zero first) end + at_least_zero (pos 0 -ℤ first))
    go (pos n) low high last =
        let from : min n end ≡ n = omega arith in
        let apart : pos i -ℤ pos n ≡ pos (i - n) = omega (arith, ints) in
        let most : int_lt (pos (i - n)) (pos side) ≡ true = sym (omega (arith, ints)) in
        let least : int_le (pos 0) (pos (i - n)) ≡ true = sym (omega (arith, ints)) in
        let same : i - n ≡ i - n + 0 = omega arith in
        rw (from, apart, least, most, none n) (ap Some same)
    go (negsuc n) low high last =
        let most : int_lt (pos (i + suc n)) (pos side) ≡ true = sym (omega (arith, ints)) in
        let least : int_le (pos 0) (pos (i + suc n)) ≡ true = sym (omega (arith, ints)) in
        let same : i + suc n ≡ i - min 0 end + (0 + suc n) = omega arith in
        rw (least, most) (ap Some same)

-- so many columns lie on it
pub side-part : (side : ℕ) (at : ℤ) (end : ℕ) → min (at_least_zero (at -ℤ pos (side / 2))) end < min (at_least_zero (at -ℤ pos (side / 2) +ℤ pos side)) end →
    min (at_least_zero (at -ℤ pos (side / 2) +ℤ pos side)) end - min (at_least_zero (at -ℤ pos (side / 2))) end + skipped side at ≤ side
side-part side at end some =
    let back : pos (side / 2) -ℤ at ≡ pos 0 -ℤ (at -ℤ pos (side / 2)) = omega (arith, ints) in
    rw back (go (at -ℤ pos (side / 2)) some)
  where
    go : (first : ℤ) → min (at_least_zero first) end < min (at_least_zero (first +ℤ pos side)) end →
        min (at_least_zero (first +ℤ pos side)) end - min (at_least_zero first) end + at_least_zero (pos 0 -ℤ first) ≤ side
    go (pos n) h =
        let sum : at_least_zero (pos n +ℤ pos side) ≡ n + side = refl in
        let before : at_least_zero (pos 0 -ℤ pos n) ≡ 0 = none n in
        omega arith
    go (negsuc n) h =
        let back : pos 0 -ℤ negsuc n ≡ pos (suc n) = omega (arith, ints) in
        let before : at_least_zero (pos 0 -ℤ negsuc n) ≡ suc n = ap at_least_zero back in
        let last : pos (at_least_zero (negsuc n +ℤ pos side)) ≡ negsuc n +ℤ pos side = up (negsuc n +ℤ pos side) (omega arith) in
        let sum : at_least_zero (negsuc n +ℤ pos side) + suc n ≡ side = omega (arith, ints) in
        omega arith

-- a part of a list has its elements
pub part-length : {X : Type 0} (xs : List X) (start count n : ℕ) → n ≡ count → start + count ≤ length xs → length (take n (drop start xs)) ≡ count
part-length xs start count n is fits = omega (arith, is, length-take n (drop start xs), length-drop start xs)

pub part-get : {X : Type 0} (xs : List X) (start count n k : ℕ) → n ≡ count → start + count ≤ length xs → k < count → slice_get (take n (drop start xs)) k ≡ slice_get xs (start + k)
part-get [] start count n k is fits h = absurd (omega arith)
part-get (x ∷ xs) start count n k is fits h =
    slice_get-get_or (take n (drop start (x ∷ xs))) k x (omega (arith, is, length-take n (drop start (x ∷ xs)), length-drop start (x ∷ xs)))
    ∙ (ap Some (get_or-take n (drop start (x ∷ xs)) k x (omega arith) ∙ get_or-drop start (x ∷ xs) k x)
    ∙ sym (slice_get-get_or (x ∷ xs) (start + k) x (omega arith)))

-- what falls into a row: the part of a row of the pixmap whose columns are seen
pub seen-part : (s : StampValue) (i j end row start : ℕ) (columns : Span) (colours : List Rgb) → start ≡ row * s.pixmap.width + skipped s.pixmap.width s.pixel.i →
    position_on s.pixmap.height s.pixel.j (pos j) ≡ Some row → ((i : ℕ) → i < columns.from → position_on s.pixmap.width s.pixel.i (pos i) ≡ None) →
    ((i : ℕ) → columns.to ≤ i → i < end → position_on s.pixmap.width s.pixel.i (pos i) ≡ None) →
    ((i : ℕ) → columns.from ≤ i → i < columns.to → position_on s.pixmap.width s.pixel.i (pos i) ≡ Some (i - columns.from + skipped s.pixmap.width s.pixel.i)) →
    length colours ≡ columns.to - columns.from → ((k : ℕ) → k < columns.to - columns.from → slice_get colours k ≡ slice_get s.pixmap.pixels (start + k)) → columns.from < columns.to →
    i < end → pixel_from columns.from colours i ≡ pixel_at s (pos i) (pos j)
seen-part s i j end row start columns colours is up before after on wide part some below = ⊎_elim
    (λ (lt : i < columns.from). rw (lt-leb columns.from i lt, before i lt) refl)
    (λ (from : columns.from ≤ i). ⊎_elim
    (λ (within : i < columns.to).
    let place : start + (i - columns.from) ≡ row * s.pixmap.width + (i - columns.from + skipped s.pixmap.width s.pixel.i) = omega arith in
    rw (le-leb columns.from i from, on i from within, up) (part (i - columns.from) (omega arith) ∙ ap (λ n. slice_get s.pixmap.pixels n) place))
    (λ (past : columns.to ≤ i). rw (le-leb columns.from i from, after i past below) (slice_get_past colours (i - columns.from) (omega arith)))
    (cases_lt i columns.to))
    (cases_lt i columns.from)

-- nothing falls into a row of which no column is seen
pub unseen-columns : (s : StampValue) (i j end : ℕ) (columns : Span) → columns.to ≤ columns.from → ((i : ℕ) → i < columns.from → position_on s.pixmap.width s.pixel.i (pos i) ≡ None) →
    ((i : ℕ) → columns.to ≤ i → i < end → position_on s.pixmap.width s.pixel.i (pos i) ≡ None) → i < end → None ≡ pixel_at s (pos i) (pos j)
unseen-columns s i j end columns empty before after below = ⊎_elim
    (λ (lt : i < columns.from). rw (before i lt) refl)
    (λ (from : columns.from ≤ i). rw (after i (omega arith) below) refl)
    (cases_lt i columns.from)

-- no colours have none
pub none-from : (i : ℕ) → pixel_from 0 [] i ≡ None
none-from i = rw (le-leb 0 i (omega arith)) (slice_get_past [] i (omega arith))

-- where a row lies on a side it is one of its rows
pub position-below : (side : ℕ) (at : ℤ) (i p : ℕ) → position_on side at (pos i) ≡ Some p → p < side
position-below side at i p h = go (pos i -ℤ (at -ℤ pos (side / 2))) (cond_some (int_le (pos 0) (pos i -ℤ (at -ℤ pos (side / 2))) && int_lt (pos i -ℤ (at -ℤ pos (side / 2))) (pos side)) _ p h)
  where
    go : (apart : ℤ) → ((int_le (pos 0) apart && int_lt apart (pos side)) ≡ true) × (at_least_zero apart ≡ p) → p < side
    go (pos n) h = let both = and_parts (int_le (pos 0) (pos n)) (int_lt (pos n) (pos side)) h.0 in omega (arith, ints, both.1, h.1)
    go (negsuc n) h = let both = and_parts (int_le (pos 0) (negsuc n)) (int_lt (negsuc n) (pos side)) h.0 in absurd (omega (arith, ints, both.0))

-- a part of a row lies within the pixmap
pub part-fits : (row width height before left count n : ℕ) → row < height → before ≡ row * width → count + left ≤ width → n ≡ width * height → before + left + count ≤ n
part-fits row width height before left count n up is fits all = omega (arith, row_fits row width height width up (omega arith), mul_comm width height)
