-- One more row of a tile.
use Rattle.std.proofs.Common.{◌≡◌, ◌∙◌, ℕ, ◌+◌, ◌-◌, ◌*◌, ◌<◌, ◌≤◌, List, ◌++◌, length, take, drop, get_or, Option, Some, sym, ap, inl, inr, arith}
use Rattle.std.proofs.Math.Nat.{mul-le-mul_left, mul-le-mul_right}
use Rattle.std.proofs.lemmas.Bool.{cases_lt}
use Rattle.std.proofs.lemmas.List.{get_or-append_right, get_or-drop, get_or-take, get_or_append_left, length-append, length-drop, length-take-le}
use Rattle.std.proofs.lemmas.Option.{slice_get-get_or}
use Rattle.std.specs.List.{slice_get}
use lib.Seq.{take_all}
use borrow.Rule.Slice.PartMut.{mid_of, post_of, put_mid}
use Rattle.mapdefs.specs.declared.colour.Rgb.{Rgb}
use Rattle.mapdefs.specs.declared.rgba.Rgba.{Rgba}
use Rattle.smoothing.specs.Fine.{pixel_at, smoothed}
use Rattle.supersampling.specs.TileRows.{HasTileRows}
use Rattle.supersampling.specs.declared.tile.Tile.{Tile}
use Rattle.supersampling.specs.declared.tile_rows.FineRows.{FineRows}
use Rattle.supersampling.proofs.Smoothing.{row-moved}

-- nothing, to stand where there is no pixel
none : Rgba
none = record { red = 0; green = 0; blue = 0; alpha = 0 }

-- pixels of which a part was put back: as many, and what stands before the part, in it, and behind it
put-length : (a k : ℕ) (xs ys : List Rgba) → a + k ≤ length xs → length ys ≡ k → length (put_mid a k xs ys) ≡ length xs
put-length a k xs ys h wide =
    omega (
      arith,
      length-append (take a xs) (ys ++ post_of a k xs),
      length-append ys (post_of a k xs),
      length-take-le a xs (omega arith),
      length-drop k (drop a xs),
      length-drop a xs,
    )

put-before : (a k : ℕ) (xs ys : List Rgba) (at : ℕ) → a + k ≤ length xs → length ys ≡ k → at < a → slice_get (put_mid a k xs ys) at ≡ slice_get xs at
put-before a k xs ys at h wide less =
    let same : get_or (put_mid a k xs ys) at none ≡ get_or xs at none =
    get_or_append_left (take a xs) (ys ++ post_of a k xs) none at (omega (arith, length-take-le a xs (omega arith))) ∙ get_or-take a xs at none less in
    slice_get-get_or (put_mid a k xs ys) at none (omega (arith, put-length a k xs ys h wide)) ∙ (ap Some same ∙ sym (slice_get-get_or xs at none (omega arith)))

put-within : (a k : ℕ) (xs ys : List Rgba) (j : ℕ) → a + k ≤ length xs → length ys ≡ k → j < k → slice_get (put_mid a k xs ys) (a + j) ≡ slice_get ys j
put-within a k xs ys j h wide less =
    let back : a + j - a ≡ j = omega arith in
    let same : get_or (put_mid a k xs ys) (a + j) none ≡ get_or ys j none =
    get_or-append_right (take a xs) (ys ++ post_of a k xs) a (a + j) none (length-take-le a xs (omega arith)) (omega arith)
    ∙ (ap (λ n. get_or (ys ++ post_of a k xs) n none) back ∙ get_or_append_left ys (post_of a k xs) none j (omega (arith, wide))) in
    slice_get-get_or (put_mid a k xs ys) (a + j) none (omega (arith, put-length a k xs ys h wide)) ∙ (ap Some same ∙ sym (slice_get-get_or ys j none (omega (arith, wide))))

put-after : (a k : ℕ) (xs ys : List Rgba) (j : ℕ) → a + k ≤ length xs → length ys ≡ k → a + (k + j) < length xs → slice_get (put_mid a k xs ys) (a + (k + j)) ≡ slice_get xs (a + (k + j))
put-after a k xs ys j h wide short =
    let back : a + (k + j) - a ≡ k + j = omega arith in
    let further : k + j - k ≡ j = omega arith in
    let same : get_or (put_mid a k xs ys) (a + (k + j)) none ≡ get_or xs (a + (k + j)) none =
    get_or-append_right (take a xs) (ys ++ post_of a k xs) a (a + (k + j)) none (length-take-le a xs (omega arith)) (omega arith)
    ∙ (ap (λ n. get_or (ys ++ post_of a k xs) n none) back
    ∙ (get_or-append_right ys (post_of a k xs) k (k + j) none wide (omega arith)
    ∙ (ap (λ n. get_or (post_of a k xs) n none) further ∙ (get_or-drop k (drop a xs) j none ∙ get_or-drop a xs (k + j) none)))) in
    slice_get-get_or (put_mid a k xs ys) (a + (k + j)) none (omega (arith, put-length a k xs ys h wide)) ∙ (ap Some same ∙ sym (slice_get-get_or xs (a + (k + j)) none short))

-- the fine rows of a row of the tile are there
pub rows-there : (n row rows side size : ℕ) → row < rows → size ≡ side * (n * rows) → n * row * side + n * side ≤ size
rows-there n row rows side size less is =
    let next : row + 1 ≤ rows = omega arith in
    omega (arith, mul-le-mul_left (n * side) next, is)

-- the pixels from one on, and how many they are
pub part-is : (first : ℕ) (xs : List (Option Rgb)) → take (length xs - first) (drop first xs) ≡ drop first xs
part-is first xs = take_all (length xs - first) (drop first xs) (omega (arith, length-drop first xs))

pub part-size : (first : ℕ) (xs : List (Option Rgb)) → length (take (length xs - first) (drop first xs)) ≡ length xs - first
part-size first xs = ap length (part-is first xs) ∙ length-drop first xs

-- what was put back is as long as the part
pub part-wide : (a k w : ℕ) (xs ys : List Rgba) → k ≡ w → a + w ≤ length xs → length ys ≡ length (mid_of a k xs) → length ys ≡ k
part-wide a k w xs ys many within same = same ∙ length-take-le k (drop a xs) (omega (arith, length-drop a xs))

-- the row's columns are there
pub columns-there : (first row rows column columns width size : ℕ) → row < rows → column + columns ≤ width → (first + rows) * width ≤ size →
    (first + row) * width + column + columns ≤ size
columns-there first row rows column columns width size less across area =
    let next : first + row + 1 ≤ first + rows = omega arith in
    omega (arith, mul-le-mul_right width next)

pub one-more-row :
    (fine : FineRows) (width : ℕ) (tile : Tile) (row a k : ℕ) (old now ys : List Rgba) →
    tile.column + tile.columns ≤ width → (tile.row + tile.rows) * width ≤ length old → row < tile.rows →
    a ≡ (tile.row + row) * width + tile.column → k ≡ tile.columns → length ys ≡ k →
    ((i : ℕ) → i < tile.columns → slice_get ys i ≡ Some (smoothed fine.factor (pixel_at (drop (fine.factor * row * fine.width) fine.pixels.now) fine.width) i 0)) →
    HasTileRows fine width tile row old now → HasTileRows fine width tile (row + 1) old (put_mid a k now ys)
one-more-row fine width tile row a k old now ys across area below start many wide means p = record {
  area = put-length a k now ys within wide ∙ p.area;
  means = λ i j left up. elim (cases_lt j row) [
    | inl before ↦
        let next : tile.row + j + 1 ≤ tile.row + row = omega arith in
        put-before a k now ys ((tile.row + j) * width + (tile.column + i)) within wide (omega (arith, mul-le-mul_right width next, start)) ∙ p.means i j left before
    | inr after ↦
        let last : row ≡ j = omega arith in
        at-row i j last (put-within a k now ys i within wide (omega arith) ∙ (means i left ∙ ap Some (row-moved fine.factor row i fine.width fine.pixels.now)))
  ];
  above = λ i j left up.
      let next : j + 1 ≤ tile.row + row = omega arith in
      put-before a k now ys (j * width + i) within wide (omega (arith, mul-le-mul_right width next, start)) ∙ p.above i j left up;
  beside = λ i j left least most. elim (cases_lt (tile.row + row) j) [
    | inl after ↦ behind i j left most after ∙ p.beside i j left least most
    | inr before ↦
        let upto : j ≤ tile.row + row = omega arith in
        put-before a k now ys (j * width + i) within wide (omega (arith, mul-le-mul_right width upto, start)) ∙ p.beside i j left least most
  ];
}
  where
    within : a + k ≤ length now
    within = omega (arith, p.area, start, many, columns-there tile.row row tile.rows tile.column tile.columns width (length old) below across area)

    at-row : (i j : ℕ) → row ≡ j → slice_get (put_mid a k now ys) (a + i) ≡ Some (smoothed fine.factor (pixel_at fine.pixels.now fine.width) i row) →
        slice_get (put_mid a k now ys) ((tile.row + j) * width + (tile.column + i)) ≡ Some (smoothed fine.factor (pixel_at fine.pixels.now fine.width) i j)
    at-row i j same h = rw (← same) (at (a + i) ((tile.row + row) * width + (tile.column + i)) (omega (arith, start)) h)
      where
        at : (x y : ℕ) → x ≡ y → slice_get (put_mid a k now ys) x ≡ Some (smoothed fine.factor (pixel_at fine.pixels.now fine.width) i row) → slice_get (put_mid a k now ys) y ≡ Some (smoothed fine.factor (pixel_at fine.pixels.now fine.width) i row)
        at x y e h = rw (← e) h

    behind : (i j : ℕ) → i < tile.column → j < tile.row + tile.rows → tile.row + row < j → slice_get (put_mid a k now ys) (j * width + i) ≡ slice_get now (j * width + i)
    behind i j left most after =
        let upto : tile.row + row + 1 ≤ j = omega arith in
        let next : j + 1 ≤ tile.row + tile.rows = omega arith in
        let further : a + k ≤ j * width + i = omega (arith, mul-le-mul_right width upto, start, many, across) in
        let short : j * width + i < length now = omega (arith, mul-le-mul_right width next, area, p.area, left, across) in
        let is : a + (k + (j * width + i - (a + k))) ≡ j * width + i = omega arith in
        at (a + (k + (j * width + i - (a + k)))) (j * width + i) is (put-after a k now ys (j * width + i - (a + k)) within wide (omega arith))
      where
        at : (x y : ℕ) → x ≡ y → slice_get (put_mid a k now ys) x ≡ slice_get now x → slice_get (put_mid a k now ys) y ≡ slice_get now y
        at x y e h = rw (← e) h
