-- What is drawn, with labels over it, is the picture; and there is one.
use Rattle.std.proofs.Common.{◌≡◌, ◌∙◌, zero, suc, ℕ, ◌+◌, ◌*◌, ◌/◌, ◌%◌, ◌<◌, List, [], ◌++◌, length, Option, Some, refl, sym, arith, subst}
use Rattle.std.proofs.lemmas.List.{same_lists}
use Rattle.std.proofs.lemmas.Nat.{div_below}
use Rattle.std.proofs.lemmas.Option.{get_or_from_slice_get}
use Rattle.std.specs.List.{slice_get}
use Rattle.std.specs.Prelude.{IfSome}
use Rattle.labelcache.proofs.Unique.{one-placement}
use Rattle.labelcache.specs.Candidate.{CandidateValue}
use Rattle.labelcache.specs.Placement.{setting}
use Rattle.labelcache.specs.declared.cache.Placed.{Placed}
use Rattle.mapdefs.specs.declared.colour.Rgb.{Rgb}
use Rattle.mapdefs.specs.declared.font.FontFields.{FontFields}
use Rattle.mapdefs.specs.declared.picture.PictureFields.{PictureFields}
use Rattle.scene.specs.Scene.{SceneValue}
use Rattle.viewport.specs.View.{ViewValue}
use Rattle.compose.specs.Drawn.{blank_of, DrawingValue, HasLabels, IsDrawn}
use Rattle.compose.specs.Labels.{ArePlaced, candidate_list, ink_list}
use Rattle.compose.specs.Paint.{paint_list}
use Rattle.canvas.specs.Painted.{colour_at}
use Rattle.compose.specs.Picture.{HasOnePicture, IsPictureOf}
use Rattle.compose.specs.Walk.{classified_list}
use Rattle.canvas.proofs.Painting.{painted-append, painted-area, painted-pixels}
use Rattle.compose.proofs.Walking.{paint-list-of-classified}

-- from a canvas of the background on which all classified features were drawn and their candidates collected, and labels of these were painted
pub finished : (scene : SceneValue) (chosen : List ℕ) (background : Option Rgb) (a b : DrawingValue) (c : PictureFields) →
    a ≡ record { canvas = blank_of scene.view background; labels = Some [] } →
    IsDrawn scene a b (classified_list scene.scale scene.map chosen) → IfSome b.labels (λ candidates. HasLabels scene candidates b.canvas c) →
    IsPictureOf scene.map scene.view scene.scale chosen background c
finished scene chosen background a b c empty drawn labelled =
    let view = scene.view in
    let shapes = paint_list view scene.scale scene.map chosen in
    let blank = blank_of view background in
    let whole = subst (λ (x : DrawingValue). IsDrawn scene x b (classified_list scene.scale scene.map chosen)) empty drawn in
    let labels : HasLabels scene (candidate_list view scene.scale scene.map chosen) b.canvas c = rw whole.labelled at labelled in
    let painted = rw (← paint-list-of-classified view scene.scale scene.map chosen) at whole.painted in
    let all = painted-append blank b.canvas c shapes (ink_list scene.map.fonts (candidate_list view scene.scale scene.map chosen) labels.labels) painted labels.painted in
    record {
      labels = labels.labels;
      placed = labels.placed;
      width = all.width;
      height = all.height;
      area = painted-area view background _ c all;
      pixels = painted-pixels view background _ c all;
    }

-- candidates have one list of labels
one-labelling : (view : ViewValue) (fonts : List FontFields) (candidates : List CandidateValue) (a b : List Placed) → ArePlaced view fonts candidates a → ArePlaced view fonts candidates b → a ≡ b
one-labelling view fonts candidates a b p q = one-placement (setting (record { width = view.width; height = view.height; fonts = fonts }) candidates) a b p q

-- pictures of the same sides and pixels are the same
same-picture : (a b : PictureFields) → a.width ≡ b.width → a.height ≡ b.height → a.pixels ≡ b.pixels → a ≡ b
same-picture a b e f g = go a.width a.height a.pixels e f g
  where
    go : (w h : ℕ) (pixels : List (Option Rgb)) → w ≡ b.width → h ≡ b.height → pixels ≡ b.pixels → ◌≡◌ {A = PictureFields} (record { width = w; height = h; pixels = pixels }) b
    go w h pixels e f g = rw (e, f, g) refl

column-below : (at w h : ℕ) → at < w * h → at % w < w
column-below at zero h below = absurd (omega arith)
column-below at (suc w) h below = omega arith

row-below : (at w h : ℕ) → at < w * h → at / w < h
row-below at zero h below = absurd (omega arith)
row-below at (suc w) h below = div_below at (suc w) h (omega arith) (omega arith)

-- an index by its row and its column
by-row : (at w h : ℕ) → at < w * h → at / w * w + at % w ≡ at
by-row at zero h below = absurd (omega arith)
by-row at (suc w) h below = omega arith

-- pixels that have the same colours row by row are the same
same-pixels : (w h : ℕ) (colour : ℕ → ℕ → Option Rgb) (a b : List (Option Rgb)) → length a ≡ w * h → length b ≡ w * h →
    ((i j : ℕ) → i < w → j < h → slice_get a (j * w + i) ≡ Some (colour i j)) → ((i j : ℕ) → i < w → j < h → slice_get b (j * w + i) ≡ Some (colour i j)) → a ≡ b
same-pixels w h colour a b la lb p q = same_lists a b (la ∙ sym lb) (λ k d short.
    let below : k < w * h = omega (arith, la, short) in
    let is = by-row k w h below in
    let pa = rw is at (p (k % w) (k / w) (column-below k w h below) (row-below k w h below)) in
    let pb = rw is at (q (k % w) (k / w) (column-below k w h below) (row-below k w h below)) in
    get_or_from_slice_get a k (colour (k % w) (k / w)) d pa ∙ sym (get_or_from_slice_get b k (colour (k % w) (k / w)) d pb))

pub one-picture : HasOnePicture
one-picture m view scale chosen background a b p q =
    let candidates = candidate_list view scale m chosen in
    let labels = one-labelling view m.fonts candidates p.labels q.labels p.placed q.placed in
    let colour = λ (i j : ℕ). colour_at background (paint_list view scale m chosen ++ ink_list m.fonts candidates q.labels) i j in
    same-picture a b (p.width ∙ sym q.width) (p.height ∙ sym q.height)
    (same-pixels view.width view.height colour a.pixels b.pixels (p.area ∙ rw (p.width, p.height) refl) (q.area ∙ rw (q.width, q.height) refl) (rw labels at p.pixels) q.pixels)
