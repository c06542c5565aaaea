-- One more tile, and one more strip.
use Rattle.std.proofs.Common.{◌≡◌, ◌∙◌, ℕ, ◌+◌, ◌-◌, ◌*◌, ◌/◌, ◌<◌, ◌≤◌, List, Option, None, Some, refl, sym, ap, inl, inr, arith}
use Rattle.std.proofs.Math.Nat.{mul-le-mul_left, mul-le-mul_right}
use Rattle.std.proofs.lemmas.Bool.{cases_lt}
use Rattle.std.proofs.lemmas.Option.{get_or_from_slice_get}
use Rattle.std.specs.List.{slice_get}
use Rattle.std.specs.Prelude.{Result, Ok, Err, OnOk}
use Rattle.geom.specs.Side.{IsPictureSide}
use Rattle.mapdefs.specs.declared.colour.Rgb.{Rgb}
use Rattle.mapdefs.specs.declared.picture.PictureFields.{PictureFields}
use Rattle.mapdefs.specs.declared.rgba.Rgba.{Rgba}
use Rattle.mapdefs.specs.declared.smooth_picture.SmoothFields.{SmoothFields}
use Rattle.smoothing.specs.Fine.{smoothed}
use Rattle.compose.specs.Blocks.{IsBlockOf}
use Rattle.supersampling.proofs.Smoothing.{blocks-have-whole-pixels}
use Rattle.viewport.specs.declared.fine.Stretch.{Stretch}
use Rattle.scaledenom.specs.Scale.{PictureScale}
use Rattle.labelcache.specs.Candidate.{CandidateValue}
use Rattle.labelcache.specs.declared.cache.Placed.{Placed}
use Rattle.mapdefs.specs.declared.map.MapFields.{MapFields}
use Rattle.viewport.specs.View.{IsOnSide, ViewValue, whole_of}
use Rattle.compose.specs.Blocks.{whole_colour}
use Rattle.compose.specs.Labels.{ArePlaced, candidate_list}
use Rattle.supersampling.specs.Smooth.{IsSmoothPictureOf}
use Rattle.supersampling.specs.Tiles.{DrawnIsSmooth, HasColumns, HasRows, HasSameSides, IsSmoothFields, IsTileDrawn, IsTileFilled, canvas_colour}
use Rattle.supersampling.specs.declared.tile.Tile.{Tile}

pub no-change : (p : SmoothFields) → HasSameSides p p
no-change p = record { width = refl; height = refl; area = refl }

pub two-changes : (a b c : SmoothFields) → HasSameSides a b → HasSameSides b c → HasSameSides a c
two-changes a b c p q = record { width = q.width ∙ p.width; height = q.height ∙ p.height; area = q.area ∙ p.area }

pub still-fields : (a b : SmoothFields) → HasSameSides a b → IsSmoothFields a → IsSmoothFields b
still-fields a b same p = record {
  columns = record { some = omega (arith, same.width, p.columns.some); most = omega (arith, same.width, p.columns.most) };
  rows = record { some = omega (arith, same.height, p.rows.some); most = omega (arith, same.height, p.rows.most) };
  area = same.area ∙ (p.area ∙ product a.width a.height b.width b.height same.width same.height);
}
  where
    product : (w h w' h' : ℕ) → w' ≡ w → h' ≡ h → w * h ≡ w' * h'
    product w h w' h' e f = rw (e, f) refl

-- the side of a canvas for so many pixels of a smoothed picture
pub side-within : (n count most : ℕ) → 1 ≤ n → 1 ≤ count → most ≤ 2048 → count ≤ most / n → IsPictureSide (n * count)
side-within n count most some one big few =
    record {
      some = omega (arith, mul-le-mul_left n one);
      most = omega (arith, mul-le-mul_left n few);
    }

-- rows above a tile that is drawn are as they were
pub rows-kept : (n : ℕ) (colour : ℕ → ℕ → Option Rgb) (tile : Tile) (old new : SmoothFields) → IsTileDrawn n colour tile old new →
    HasRows n colour tile.row old → HasRows n colour tile.row new
rows-kept n colour tile old new drawn rows = record {
  means = λ i j across down.
      let there : i < old.width = omega (arith, drawn.sides.width) in
      at-width new.pixels old.width new.width i j (Some (smoothed n colour i j)) (sym drawn.sides.width) (drawn.above i j there down ∙ rows.means i j there down);
}
  where
    at-width : (xs : List Rgba) (w w' i j : ℕ) (x : Option Rgba) → w ≡ w' → slice_get xs (j * w + i) ≡ x → slice_get xs (j * w' + i) ≡ x
    at-width xs w w' i j x e h = rw (← e) h

-- no columns, and those of one more tile
pub columns-none : (n : ℕ) (colour : ℕ → ℕ → Option Rgb) (row rows : ℕ) (p : SmoothFields) → HasColumns n colour row rows 0 p
columns-none n colour row rows p = record { means = λ i j across least most. absurd (omega arith) }

pub columns-more : (n : ℕ) (colour : ℕ → ℕ → Option Rgb) (tile : Tile) (old new : SmoothFields) → IsTileDrawn n colour tile old new →
    HasColumns n colour tile.row tile.rows tile.column old → HasColumns n colour tile.row tile.rows (tile.column + tile.columns) new
columns-more n colour tile old new drawn columns = record { means = λ i j across least most. at-width i j (pixel i j across least most) }
  where
    at-width : (i j : ℕ) → slice_get new.pixels (j * old.width + i) ≡ Some (smoothed n colour i j) → slice_get new.pixels (j * new.width + i) ≡ Some (smoothed n colour i j)
    at-width i j h = rw drawn.sides.width h

    exactly : (i' j' i j : ℕ) → i' ≡ i → j' ≡ j → slice_get new.pixels (j' * old.width + i') ≡ Some (smoothed n colour i' j') → slice_get new.pixels (j * old.width + i) ≡ Some (smoothed n colour i j)
    exactly i' j' i j e f h = rw (← e, ← f) h

    pixel : (i j : ℕ) → i < tile.column + tile.columns → tile.row ≤ j → j < tile.row + tile.rows → slice_get new.pixels (j * old.width + i) ≡ Some (smoothed n colour i j)
    pixel i j across least most = elim (cases_lt i tile.column) [
      | inl before ↦ drawn.beside i j before least most ∙ columns.means i j before least most
      | inr after ↦ exactly (tile.column + (i - tile.column)) (tile.row + (j - tile.row)) i j (omega arith) (omega arith)
          (drawn.means (i - tile.column) (j - tile.row) (omega arith) (omega arith))
    ]

-- rows that have all columns are done
pub rows-more : (n : ℕ) (colour : ℕ → ℕ → Option Rgb) (row rows columns : ℕ) (p : SmoothFields) → p.width ≤ columns →
    HasRows n colour row p → HasColumns n colour row rows columns p → HasRows n colour (row + rows) p
rows-more n colour row rows columns p all above strip = record {
  means = λ i j across down. elim (cases_lt j row) [
    | inl before ↦ above.means i j across before
    | inr after ↦ strip.means i j (omega arith) after down
  ];
}

-- no rows
pub rows-none : (n : ℕ) (colour : ℕ → ℕ → Option Rgb) (p : SmoothFields) → HasRows n colour 0 p
rows-none n colour p = record { means = λ i j across down. absurd (omega arith) }

-- the fine pixels of a tile lie on the fine picture
pub tile-within : (n f first count side whole from many : ℕ) → n ≡ f → from ≡ n * first → many ≡ n * count → whole ≡ f * side → first + count ≤ side → from + many ≤ whole
tile-within n f first count side whole from many e here there all within =
    let one : from ≡ f * first = rw e at here in
    let two : many ≡ f * count = rw e at there in
    omega (arith, mul-le-mul_left f within)

-- a canvas that has a block of the fine picture has its colours
canvas-colour : (colour : ℕ → ℕ → Option Rgb) (across down : Stretch) (canvas : PictureFields) → IsBlockOf colour across down canvas →
    (i j : ℕ) → i < canvas.width → j < canvas.height → canvas_colour canvas i j ≡ colour (across.first + i) (down.first + j)
canvas-colour colour across down canvas block i j left up =
    get_or_from_slice_get canvas.pixels (j * canvas.width + i) (colour (across.first + i) (down.first + j)) None (block.pixels i j left up)

-- a tile that is filled with the means of such a canvas is drawn
pub drawn-by : (n f : ℕ) (colour : ℕ → ℕ → Option Rgb) (tile : Tile) (across down : Stretch) (canvas : PictureFields) (old new : SmoothFields) → n ≡ f →
    across.first ≡ n * tile.column → across.count ≡ n * tile.columns → down.first ≡ n * tile.row → down.count ≡ n * tile.rows →
    IsBlockOf colour across down canvas → IsTileFilled n canvas tile old new → IsTileDrawn f colour tile old new
drawn-by n f colour tile across down canvas old new e left wide top high block filled = record {
  sides = filled.sides;
  means = λ i j right low. filled.means i j right low ∙ ap Some (rw (← e) (mean i j right low));
  above = filled.above;
  beside = filled.beside;
}
  where
    at : (k l k' l' : ℕ) → k ≡ k' → l ≡ l' → colour k l ≡ colour k' l'
    at k l k' l' e f = rw (e, f) refl

    same : (i j : ℕ) → i < n * tile.columns → j < n * tile.rows → canvas_colour canvas i j ≡ colour (n * tile.column + i) (n * tile.row + j)
    same i j right low =
        canvas-colour colour across down canvas block i j (omega (arith, block.width, wide)) (omega (arith, block.height, high))
        ∙ at (across.first + i) (down.first + j) (n * tile.column + i) (n * tile.row + j) (omega (arith, left)) (omega (arith, top))

    mean : (i j : ℕ) → i < tile.columns → j < tile.rows → smoothed n (canvas_colour canvas) i j ≡ smoothed n colour (tile.column + i) (tile.row + j)
    mean i j right low = blocks-have-whole-pixels n tile.column tile.columns tile.row tile.rows (canvas_colour canvas) colour same i j right low

pub drawn-is-smooth : DrawnIsSmooth
drawn-is-smooth m view scale chosen background labels p across down sides placed rows = record {
  labels = labels;
  placed = placed;
  width = across;
  height = down;
  area = sides.area;
  pixels = record { pixels = λ i j left up. rows.means i j left up };
}

-- the whole fine picture, with labels placed on it, is drawn
pub smooth-drawn : (m : MapFields) (view : ViewValue) (scale : PictureScale) (chosen : List ℕ) (background : Option Rgb) (candidates : List CandidateValue) (labels : List Placed) (old new : SmoothFields) →
    view.columns ≡ view.factor * old.width → view.rows ≡ view.factor * old.height → IsSmoothFields old → candidates ≡ candidate_list (whole_of view) scale m chosen →
    ArePlaced (whole_of view) m.fonts candidates labels → HasSameSides old new →
    HasRows view.factor (whole_colour m (whole_of view) scale chosen background labels) new.height new → IsSmoothPictureOf m (whole_of view) scale chosen background new
smooth-drawn m view scale chosen background candidates labels old new across down fields all placed sides rows =
    drawn-is-smooth m (whole_of view) scale chosen background labels new
    (rw sides.width (sym across)) (rw sides.height (sym down)) (still-fields old new sides fields) (rw all at placed) rows

-- two facts after a call that succeeds
pub both-ok : {T E P Q R : Type 0} (r : Result T E) → (P → Q → R) → OnOk r P → OnOk r Q → OnOk r R
both-ok (Ok x) f p q = f p q
both-ok (Err e) f p q = tt

-- a side that has so many pixels for each of some has a first pixel
pub first-on-side : (pixels factor side : ℕ) → pixels ≡ factor * side → 1 ≤ factor → 1 ≤ side → IsOnSide pixels 0 1
first-on-side pixels factor side e f s = record { some = omega arith; within = omega (arith, e, mul-le-mul_right {m = 1} {n = factor} side f, s) }
