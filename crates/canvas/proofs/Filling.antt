-- Filling the rows of a polygon.
use Rattle.std.proofs.Common.{Option, ◌≡◌, ◌∙◌, ℕ, zero, suc, ◌+◌, ◌-◌, ◌*◌, ◌/◌, ◌%◌, ◌<◌, ◌≤◌, Bool, true, false, ◌||◌, All, if◌then◌else◌, cond, List, [], ◌∷◌, ◌++◌, length, take, drop, get_or, refl, sym, ap, arith, ⊎_elim}
use Rattle.std.specs.List.{list_any}
use Rattle.std.proofs.Math.Bool.{or-false}
use Rattle.std.proofs.lemmas.Bool.{and_left, and_right, cases_lt, le-ltb, lt-leb}
use Rattle.std.specs.Prelude.{nat_le, nat_lt}
use Rattle.std.proofs.lemmas.List.Folds.{list_any-append}
use Rattle.std.proofs.lemmas.List.{get_or-append_right, get_or-drop, get_or-take, get_or_append_left, length-append, length-drop, length-take, length-take-le, take_more}
use Rattle.std.proofs.lemmas.Nat.{div-add-mod', div_below, mod_below}
use Rattle.std.proofs.Math.Nat.{mul-le-mul_right}
use borrow.Rule.Slice.PartMut.{mid_of, post_of, put_mid}
use Rattle.clip.specs.EdgeClass.{has_row}
use Rattle.clip.specs.declared.rows.RowRange.{RowRange}
use Rattle.mapdefs.specs.declared.colour.Rgb.{Rgb}
use Rattle.mapdefs.specs.declared.picture.PictureFields.{PictureFields}
use Rattle.scanfill.proofs.Covering.{spans-test, spans-within}
use Rattle.scanfill.specs.Runs.{AreRunsFrom, is_in_spans}
use Rattle.scanfill.specs.declared.span.Span.{Span}
use Rattle.canvas.specs.Painted.{AreFilled, AreRowsFilled, HasRowsFilled, IsFilled, colour_of}

-- what a list of pixels holds where a part of it was put back
put-before : (a k : ℕ) (xs ys : List (Option Rgb)) (at : ℕ) → a ≤ length xs → at < a → colour_of (put_mid a k xs ys) at ≡ colour_of xs at
put-before a k xs ys at h lt = get_or_append_left (take a xs) (ys ++ post_of a k xs) _ at (omega (arith, length-take-le a xs h)) ∙ get_or-take a xs at _ lt

put-within : (a k : ℕ) (xs ys : List (Option Rgb)) (j : ℕ) → a ≤ length xs → length ys ≡ k → j < k → colour_of (put_mid a k xs ys) (a + j) ≡ colour_of ys j
put-within a k xs ys j h width lt =
    let back : a + j - a ≡ j = omega arith in
    get_or-append_right (take a xs) (ys ++ post_of a k xs) a (a + j) _ (length-take-le a xs h) (omega arith)
    ∙ (ap (λ n. colour_of (ys ++ post_of a k xs) n) back ∙ get_or_append_left ys (post_of a k xs) _ j (omega (arith, width)))

put-after : (a k : ℕ) (xs ys : List (Option Rgb)) (j : ℕ) → a ≤ length xs → length ys ≡ k → colour_of (put_mid a k xs ys) (a + (k + j)) ≡ colour_of xs (a + (k + j))
put-after a k xs ys j h width =
    let back : a + (k + j) - a ≡ k + j = omega arith in
    let further : k + j - k ≡ j = omega arith in
    get_or-append_right (take a xs) (ys ++ post_of a k xs) a (a + (k + j)) _ (length-take-le a xs h) (omega arith)
    ∙ (ap (λ n. colour_of (ys ++ post_of a k xs) n) back
    ∙ (get_or-append_right ys (post_of a k xs) k (k + j) _ width (omega arith)
    ∙ (ap (λ n. colour_of (post_of a k xs) n) further ∙ (get_or-drop k (drop a xs) j _ ∙ get_or-drop a xs (k + j) _))))

-- and it holds as many
pub put-length : (a k : ℕ) (xs ys : List (Option Rgb)) → a + k ≤ length xs → length ys ≡ k → length (put_mid a k xs ys) ≡ length xs
put-length a k xs ys h width =
    omega (
      arith,
      length-append (take a xs) (ys ++ post_of a k xs),
      length-append ys (post_of a k xs),
      length-take-le a xs (omega arith),
      length-drop k (drop a xs),
      length-drop a xs,
    )

-- one of the first elements passes, or the next one does
any-next : {X : Type 0} (test : X → Bool) (xs : List X) (i : ℕ) (x : X) → i < length xs → x ≡ get_or xs i x →
    list_any test (take (i + 1) xs) ≡ (list_any test (take i xs) || test x)
any-next test xs i x h e =
    rw (take_more xs i x h, ← e, list_any-append test (take i xs) (x ∷ []), or-false (test x)) refl

-- rows after rows
pub filled-more : (test : ℕ → ℕ → Bool) (colour : ℕ → ℕ → Option Rgb) (width from at past : ℕ) (a b c : List (Option Rgb)) → from ≤ at → at ≤ past → length b ≡ length a →
    AreRowsFilled test colour width (record { from = from; to = at }) a b → AreRowsFilled test colour width (record { from = at; to = past }) b c → AreRowsFilled test colour width (record { from = from; to = past }) a c
filled-more test colour width from at past a b c first last area p q = record {
  filled = λ k h low high. ⊎_elim
      (λ (lt : k / width < at). q.before k (omega (arith, area)) lt ∙ p.filled k h low lt)
      (λ (ge : at ≤ k / width).
      q.filled k (omega (arith, area)) ge high ∙ ap (λ x. if test (k % width) (k / width) then colour (k % width) (k / width) else x) (p.after k h ge))
      (cases_lt (k / width) at);
  before = λ k h low. q.before k (omega (arith, area)) (omega arith) ∙ p.before k h low;
  after = λ k h high. q.after k (omega (arith, area)) high ∙ p.after k h (omega arith);
}

-- one row has its colours
pub filled-row : (has : ℕ → Bool) (colour : ℕ → Option Rgb) (width r a k : ℕ) (pixels row : List (Option Rgb)) → 0 < width → a ≡ r * width → k ≡ width →
    a + k ≤ length pixels → length row ≡ k → ((i : ℕ) → colour_of row i ≡ (if has i then colour i else colour_of (mid_of a k pixels) i)) →
    AreRowsFilled (λ i j. has i) (λ i j. colour i) width (record { from = r; to = r + 1 }) pixels (put_mid a k pixels row)
filled-row has colour width r a k pixels row some start is within wide filled = record {
  filled = λ at h low high.
      let j : ℕ = at % width in
      let here : at / width ≡ r = omega arith in
      let below : j < width = mod_below at width some in
      let place : at ≡ a + j = sym (div-add-mod' at width) ∙ rw (here, start) refl in
      let old : colour_of (mid_of a k pixels) j ≡ colour_of pixels at =
      get_or-take k (drop a pixels) j _ (omega arith) ∙ (get_or-drop a pixels j _ ∙ ap (λ n. colour_of pixels n) (sym place)) in
      ap (λ n. colour_of (put_mid a k pixels row) n) place
      ∙ (put-within a k pixels row j (omega arith) wide (omega arith)
      ∙ (filled j ∙ rw old refl));
  before = λ at h low.
      let less : (at / width + 1) * width ≤ r * width = mul-le-mul_right width (omega arith) in
      put-before a k pixels row at (omega arith) (omega (arith, less, start, div-add-mod' at width, mod_below at width some));
  after = λ at h high.
      let more : (r + 1) * width ≤ at / width * width = mul-le-mul_right width high in
      let past : a + k ≤ at = omega (arith, more, start, is, div-add-mod' at width) in
      let place : at ≡ a + (k + (at - a - k)) = omega arith in
      ap (λ n. colour_of (put_mid a k pixels row) n) place
      ∙ (put-after a k pixels row (at - a - k) (omega arith) wide ∙ ap (λ n. colour_of pixels n) (sym place));
}

-- the runs of a row lie within it
pub runs-fit : (test : ℕ → Bool) (spans runs : List Span) (width : ℕ) → spans ≡ runs → AreRunsFrom test 0 width runs →
    All (λ (span : Span). (span.from ≤ span.to) × (span.to ≤ width)) spans
runs-fit test spans runs width read all = λ j d h. rw read (spans-within test 0 width j runs d all (omega (arith, ap length read)))

-- a picture that has a pixel has a column
pub some-columns : (at width height : ℕ) → at < width * height → 0 < width
some-columns at zero height h = absurd (omega arith)
some-columns at (suc width) height h = omega arith

-- the rows that the runs of a test fill are filled by the test
pub filled-runs : (test : ℕ → ℕ → Bool) (colour : ℕ → ℕ → Option Rgb) (spans runs : List Span) (j : ℕ) (a b : PictureFields) → length a.pixels ≡ a.width * a.height →
    spans ≡ runs → AreRunsFrom (λ i. test i j) 0 a.width runs → HasRowsFilled (λ i k. is_in_spans spans i) colour j (j + 1) a b → HasRowsFilled test colour j (j + 1) a b
filled-runs test colour spans runs j a b area read all f = record {
  width = f.width;
  height = f.height;
  area = f.area;
  rows = record {
    filled = λ at h low high.
        let here : at / a.width ≡ j = omega arith in
        let below : at % a.width < a.width = mod_below at a.width (some-columns at a.width a.height (omega (arith, area))) in
        let tests : is_in_spans spans (at % a.width) ≡ test (at % a.width) (at / a.width) =
        rw read (spans-test (λ i. test i j) 0 a.width (at % a.width) runs all (omega arith) below) ∙ ap (λ n. test (at % a.width) n) (sym here) in
        f.rows.filled at h low high ∙ rw tests refl;
    before = f.rows.before;
    after = f.rows.after;
  };
}

-- a part of as many pixels as a row has
pub part-wide : (a width k : ℕ) (pixels row : List (Option Rgb)) → k ≡ width → a + k ≤ length pixels → length row ≡ length (mid_of a k pixels) → length row ≡ width
part-wide a width k pixels row is within same =
    omega (arith, is, same, length-take k (drop a pixels), length-drop a pixels)

-- a row above some rows, or below them, is none of them
rows-before : (rows : RowRange) (j : ℕ) → j < rows.from → has_row rows j ≡ false
rows-before rows j h = and_left (nat_le rows.from j) (nat_lt j rows.to) (lt-leb rows.from j h)

rows-after : (rows : RowRange) (j : ℕ) → rows.to ≤ j → has_row rows j ≡ false
rows-after rows j h = and_right (nat_le rows.from j) (nat_lt j rows.to) (le-ltb j rows.to h)

-- all rows of a cover are filled, and it covers no pixel of the others
pub filled-rows : (test : ℕ → ℕ → Bool) (colour : ℕ → ℕ → Option Rgb) (width height : ℕ) (rows : RowRange) (past : ℕ) (a b : List (Option Rgb)) → length a ≡ width * height → rows.to ≤ past →
    ((i j : ℕ) → i < width → j < height → has_row rows j ≡ false → test i j ≡ false) →
    AreRowsFilled test colour width (record { from = rows.from; to = past }) a b → AreFilled test colour width a b
filled-rows test colour width height rows past a b area last none filled = λ k h.
    let some = some-columns k width height (omega (arith, area)) in
    let column : k % width < width = mod_below k width some in
    let row : k / width < height = div_below k width height some (omega (arith, area)) in
    ⊎_elim
    (λ (before : k / width < rows.from). filled.before k h before ∙ rw (none (k % width) (k / width) column row (rows-before rows (k / width) before)) refl)
    (λ (from : rows.from ≤ k / width). ⊎_elim
    (λ (within : k / width < past). filled.filled k h from within)
    (λ (after : past ≤ k / width). filled.after k h after ∙ rw (none (k % width) (k / width) column row (rows-after rows (k / width) (omega arith))) refl)
    (cases_lt (k / width) past))
    (cases_lt (k / width) rows.from)

-- a picture's rows after rows
pub rows-more : (test : ℕ → ℕ → Bool) (colour : ℕ → ℕ → Option Rgb) (from at past : ℕ) (a b c : PictureFields) → from ≤ at → at ≤ past →
    HasRowsFilled test colour from at a b → HasRowsFilled test colour at past b c → HasRowsFilled test colour from past a c
rows-more test colour from at past a b c first last p q = record {
  width = q.width ∙ p.width;
  height = q.height ∙ p.height;
  area = q.area ∙ p.area;
  rows = filled-more test colour a.width from at past a.pixels b.pixels c.pixels first last p.area p.rows (rw p.width at q.rows);
}

-- where all rows of a cover are filled the picture is
pub rows-all : (test : ℕ → ℕ → Bool) (colour : ℕ → ℕ → Option Rgb) (rows : RowRange) (past : ℕ) (a b : PictureFields) → length a.pixels ≡ a.width * a.height → rows.to ≤ past →
    ((i j : ℕ) → i < a.width → j < a.height → has_row rows j ≡ false → test i j ≡ false) → HasRowsFilled test colour rows.from past a b → IsFilled test colour a b
rows-all test colour rows past a b area last none f = record {
  width = f.width;
  height = f.height;
  area = f.area;
  filled = filled-rows test colour a.width a.height rows past a.pixels b.pixels area last none f.rows;
}

-- where two tests agree, what one fills the other does
pub filled-same : (s t : ℕ → ℕ → Bool) (colour : ℕ → ℕ → Option Rgb) (a b : PictureFields) → ((i j : ℕ) → s i j ≡ t i j) → IsFilled s colour a b → IsFilled t colour a b
filled-same s t colour a b same f = record {
  width = f.width;
  height = f.height;
  area = f.area;
  filled = λ at h. f.filled at h ∙ rw (same (at % a.width) (at / a.width)) refl;
}

-- nothing is filled where nothing passes
pub filled-nothing : (colour : ℕ → ℕ → Option Rgb) (a : PictureFields) → IsFilled (λ i j. false) colour a a
filled-nothing colour a = record {
  width = refl;
  height = refl;
  area = refl;
  filled = λ at h. refl;
}

-- the same colour once more, or on what it didn't cover before
pub cond-either : {X : Type 0} (s t : Bool) (x y : X) → cond t x (cond s x y) ≡ cond (s || t) x y
cond-either true true x y = refl
cond-either true false x y = refl
cond-either false true x y = refl
cond-either false false x y = refl

-- what passes one test is filled, and then what passes another
pub filled-either : (s t : ℕ → ℕ → Bool) (colour : ℕ → ℕ → Option Rgb) (a b d : PictureFields) → IsFilled s colour a b → IsFilled t colour b d →
    IsFilled (λ i j. s i j || t i j) colour a d
filled-either s t colour a b d p q = record {
  width = q.width ∙ p.width;
  height = q.height ∙ p.height;
  area = q.area ∙ p.area;
  filled = λ at h.
      let inside : at < length b.pixels = omega (arith, p.area) in
      q.filled at inside
      ∙ rw (p.width, p.filled at h) (cond-either (s (at % a.width) (at / a.width)) (t (at % a.width) (at / a.width)) (colour (at % a.width) (at / a.width)) (colour_of a.pixels at));
}

-- a loop that fills what its elements cover: one element more
pub filled_next : {X : Type 0} (test : X → ℕ → ℕ → Bool) (xs : List X) (i : ℕ) (x : X) (colour : ℕ → ℕ → Option Rgb) (a b d : PictureFields) → i < length xs → x ≡ get_or xs i x →
    IsFilled (λ k j. list_any (λ y. test y k j) (take i xs)) colour a b → IsFilled (test x) colour b d →
    IsFilled (λ k j. list_any (λ y. test y k j) (take (i + 1) xs)) colour a d
filled_next test xs i x colour a b d h e p q = filled-same
    (λ k j. list_any (λ y. test y k j) (take i xs) || test x k j) (λ k j. list_any (λ y. test y k j) (take (i + 1) xs)) colour a d
    (λ k j. sym (any-next (λ y. test y k j) xs i x h e))
    (filled-either (λ k j. list_any (λ y. test y k j) (take i xs)) (test x) colour a b d p q)

-- a column and a row of a picture
pub column-below : (a : PictureFields) (at : ℕ) → length a.pixels ≡ a.width * a.height → at < length a.pixels → at % a.width < a.width
column-below a at area h = mod_below at a.width (some-columns at a.width a.height (omega (arith, area)))

pub row-below : (a : PictureFields) (at : ℕ) → length a.pixels ≡ a.width * a.height → at < length a.pixels → at / a.width < a.height
row-below a at area h = div_below at a.width a.height (some-columns at a.width a.height (omega (arith, area))) (omega (arith, area))

-- where two tests agree on a picture, what one fills the other does
pub filled-within : (s t : ℕ → ℕ → Bool) (colour : ℕ → ℕ → Option Rgb) (a b : PictureFields) → length a.pixels ≡ a.width * a.height →
    ((i j : ℕ) → i < a.width → j < a.height → s i j ≡ t i j) → IsFilled s colour a b → IsFilled t colour a b
filled-within s t colour a b area same f = record {
  width = f.width;
  height = f.height;
  area = f.area;
  filled = λ at h. f.filled at h ∙ rw (same (at % a.width) (at / a.width) (column-below a at area h) (row-below a at area h)) refl;
}
