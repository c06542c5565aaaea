-- What is drawn on a block's canvas, with the labels of the whole picture, is the block.
use Rattle.std.proofs.Common.{◌≡◌, ℕ, List, map, Option, None, refl, subst}
use lib.IntN.{ℤ, pos, ◌-ℤ◌}
use Rattle.geom.specs.Device.{PixelValue}
use Rattle.labelcache.specs.Candidate.{CandidateValue}
use Rattle.labelcache.specs.declared.cache.Placed.{Placed}
use Rattle.mapdefs.specs.declared.colour.Rgb.{Rgb}
use Rattle.mapdefs.specs.declared.picture.PictureFields.{PictureFields}
use Rattle.scene.specs.Scene.{SceneValue}
use Rattle.viewport.specs.View.{ViewValue, whole_of}
use Rattle.canvas.specs.Painted.{IsPainted}
use Rattle.canvas.proofs.Painting.{painted-append}
use Rattle.compose.specs.Blocks.{IsBlockOf, corner_of, label_from, whole_colour}
use Rattle.compose.specs.Drawn.{DrawingValue, IsDrawn, blank_of}
use Rattle.compose.specs.Labels.{candidate_list, ink_list}
use Rattle.compose.specs.Paint.{paint_list}
use Rattle.compose.specs.Walk.{classified_list}
use Rattle.compose.proofs.MovedLists.{painted-blocks-are-blocks}
use Rattle.compose.proofs.Walking.{paint-list-of-classified}

-- a label at a pixel that many columns and rows less
pub moved-label : (label : Placed) (view : ViewValue) (at : PixelValue) (i j : ℤ) → at ≡ record { i = i; j = j } → i ≡ label.at.i -ℤ pos view.left → j ≡ label.at.j -ℤ pos view.top →
    ◌≡◌ {A = Placed} (record { number = label.number; at = at; taken = label.taken }) (label_from (corner_of view) label)
moved-label label view at i j e f g = rw (e, f, g) refl

pub block-drawn : (scene : SceneValue) (chosen : List ℕ) (background : Option Rgb) (candidates : List CandidateValue) (placed : List Placed) (a d : DrawingValue) (b c : PictureFields) →
    a ≡ record { canvas = blank_of scene.view background; labels = None } →
    IsDrawn scene a d (classified_list scene.scale scene.map chosen) → b ≡ d.canvas →
    candidates ≡ candidate_list (whole_of scene.view) scene.scale scene.map chosen →
    IsPainted b c (ink_list scene.map.fonts candidates (map (label_from (corner_of scene.view)) placed)) →
    IsBlockOf (whole_colour scene.map (whole_of scene.view) scene.scale chosen background placed)
    (record { first = scene.view.left; count = scene.view.width }) (record { first = scene.view.top; count = scene.view.height }) c
block-drawn scene chosen background candidates placed a d b c empty drawn same all ink =
    let view = scene.view in
    let whole = subst (λ (x : DrawingValue). IsDrawn scene x d (classified_list scene.scale scene.map chosen)) empty drawn in
    let painted = rw (← paint-list-of-classified view scene.scale scene.map chosen) at whole.painted in
    let labels = rw (same, all) at ink in
    painted-blocks-are-blocks view (record { first = view.left; count = view.width }) (record { first = view.top; count = view.height }) scene.scale scene.map chosen placed background
    (blank_of view background) c refl
    (painted-append (blank_of view background) d.canvas c (paint_list view scene.scale scene.map chosen)
    (ink_list scene.map.fonts (candidate_list (whole_of view) scene.scale scene.map chosen) (map (label_from (corner_of view)) placed)) painted labels)
