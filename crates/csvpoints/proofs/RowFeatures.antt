-- Rows as places and texts, and the features that they are.
use Rattle.std.proofs.Common.{◌≡◌, ◌∙◌, ◌<◌, ◌≤◌, ◌+◌, ◌-◌, ◌*◌, ℕ, zero, suc, List, [], ◌∷◌, ◌++◌, length, map, take, drop, get_or, Option, Some, refl, ap, sym, arith}
use Rattle.std.proofs.Math.Seq.{drop-cons, take-append_seam}
use Rattle.std.proofs.lemmas.List.{append-nil, append_assoc, drop-append-le, drop-drop, length-append, length-drop, length-map, take-append-le, take_all}
use Rattle.std.proofs.lemmas.List.{get_or-drop, get_or-take}
use Rattle.std.proofs.lemmas.Option.{unwrap_or-slice_get}
use Rattle.std.specs.List.{slice_get, slice_range}
use Rattle.std.specs.Option.{unwrap_or}
use Rattle.geom.specs.World.{Place}
use Rattle.mapdefs.specs.declared.feature.FeatureFields.{FeatureFields}
use Rattle.csvpoints.specs.Rows.{chosen_of, point_with, rows_of, value_in, with_values_in}
use Rattle.csvpoints.specs.Table.{IsPointWith}

pub rows-length : (count : ℕ) (places : List Place) (texts : List (List ℕ)) → length (rows_of count places texts) ≡ length places
rows-length count [] texts = refl
rows-length count (p ∷ places) texts = ap suc (rows-length count places (drop count texts))

-- one row more
pub rows-more : (count : ℕ) (places : List Place) (texts fields : List (List ℕ)) (p : Place) → length texts ≡ length places * count → length fields ≡ count →
    rows_of count (places ++ p ∷ []) (texts ++ fields) ≡ rows_of count places texts ++ point_with fields p ∷ []
rows-more count [] [] fields p h n = ap (λ (values : List (List ℕ)). point_with values p ∷ []) (take_all count fields (omega (arith, n)))
rows-more count [] (t ∷ texts) fields p h n = absurd (omega (arith, h))
rows-more count (q ∷ places) texts fields p h n =
    let room : count ≤ length texts = omega (arith, h) in
    let left : length (drop count texts) ≡ length places * count = omega (arith, h, length-drop count texts) in
    rw (take-append-le count texts fields room, drop-append-le count texts fields room, rows-more count places (drop count texts) fields p left n) refl

pub texts-more : (count : ℕ) (places : List Place) (texts fields : List (List ℕ)) (p : Place) → length texts ≡ length places * count → length fields ≡ count →
    length (texts ++ fields) ≡ length (places ++ p ∷ []) * count
texts-more count places texts fields p h n = rw (length-append places (p ∷ [])) (omega (arith, h, n, length-append texts fields, one-more (length places) count))
  where
    one-more : (m c : ℕ) → (m + 1) * c ≡ m * c + c
    one-more zero c = omega arith
    one-more (suc m) c = omega (arith, one-more m c)

pub point-is : (count : ℕ) (fields : List (List ℕ)) (p : Place) → length fields ≡ count → IsPointWith count (point_with fields p)
point-is count fields p n = ((p, refl), n)

-- a feature more is made
pub row-made : (count : ℕ) (made all : List FeatureFields) (places : List Place) (texts : List (List ℕ)) (i first : ℕ) (p : Place) → i < length places → p ≡ get_or places i p →
    made ++ rows_of count (drop i places) (drop first texts) ≡ all →
    (made ++ point_with (take count (drop first texts)) p ∷ []) ++ rows_of count (drop (suc i) places) (drop (first + count) texts) ≡ all
row-made count made all places texts i first p h at so_far =
    let values = take count (drop first texts) in
    let rest = rows_of count (drop (suc i) places) (drop (first + count) texts) in
    append_assoc made (point_with values p ∷ []) rest
    ∙ rw (drop-cons places i p h, ← at, drop-drop count first texts) at so_far

pub all-made : (count : ℕ) (made all : List FeatureFields) (places : List Place) (texts : List (List ℕ)) → places ≡ [] → made ++ rows_of count places texts ≡ all → made ≡ all
all-made count made all places texts none so_far = sym (append-nil made) ∙ (rw none at so_far)

-- the values of a row more are chosen
pub row-chosen : (columns : List (Option ℕ)) (count : ℕ) (chosen all : List (List ℕ)) (places : List Place) (texts : List (List ℕ)) (i first : ℕ) (p : Place) → i < length places →
    chosen ++ chosen_of columns count (drop i places) (drop first texts) ≡ all →
    (chosen ++ map (value_in (slice_range texts first (first + count))) columns) ++ chosen_of columns count (drop (suc i) places) (drop (first + count) texts) ≡ all
row-chosen columns count chosen all places texts i first p h so_far =
    let behind : first + count - first ≡ count = omega arith in
    let rest = chosen_of columns count (drop (suc i) places) (drop (first + count) texts) in
    rw behind (append_assoc chosen (map (value_in (take count (drop first texts))) columns) rest
    ∙ rw (drop-cons places i p h, drop-drop count first texts) at so_far)

pub all-chosen : (columns : List (Option ℕ)) (count : ℕ) (chosen all : List (List ℕ)) (places : List Place) (texts : List (List ℕ)) → places ≡ [] →
    chosen ++ chosen_of columns count places texts ≡ all → chosen ≡ all
all-chosen columns count chosen all places texts none so_far = sym (append-nil chosen) ∙ (rw none at so_far)

-- the rows with these values are the rows in the columns
pub rows-chosen : (columns : List (Option ℕ)) (count : ℕ) (places : List Place) (texts : List (List ℕ)) →
    rows_of (length columns) places (chosen_of columns count places texts) ≡ map (with_values_in columns) (rows_of count places texts)
rows-chosen columns count [] texts = refl
rows-chosen columns count (p ∷ places) texts =
    let values = map (value_in (take count texts)) columns in
    let rest = chosen_of columns count places (drop count texts) in
    let wide : length values ≡ length columns = length-map columns (value_in (take count texts)) in
    let front : take (length columns) (values ++ rest) ≡ values = rw (← wide) (take-append_seam values rest) in
    let behind : drop (length columns) (values ++ rest) ≡ rest = rw (← wide) (drop-append_seam values rest) in
    rw (front, behind, rows-chosen columns count places (drop count texts)) refl
  where
    drop-append_seam : (xs ys : List (List ℕ)) → drop (length xs) (xs ++ ys) ≡ ys
    drop-append_seam [] ys = refl
    drop-append_seam (x ∷ xs) ys = drop-append_seam xs ys

pub chosen-length : (columns : List (Option ℕ)) (count : ℕ) (places : List Place) (texts : List (List ℕ)) →
    length (chosen_of columns count places texts) ≡ length places * length columns
chosen-length columns count [] texts = omega arith
chosen-length columns count (p ∷ places) texts =
    let values = map (value_in (take count texts)) columns in
    omega (arith, length-append values (chosen_of columns count places (drop count texts)), length-map columns (value_in (take count texts)), chosen-length columns count places (drop count texts))

-- the value of a column within a row, if there is one
pub value-at : (texts : List (List ℕ)) (first end column : ℕ) (value : Option (List ℕ)) → column < end - first → value ≡ slice_get texts (first + column) →
    unwrap_or value [] ≡ value_in (slice_range texts first end) (Some column)
value-at texts first end column value h is =
    ap (λ (o : Option (List ℕ)). unwrap_or o []) is
    ∙ unwrap_or-slice_get texts (first + column) []
    ∙ sym (get_or-take (end - first) (drop first texts) column [] h ∙ get_or-drop first texts column [])
