-- Painting the classified features and adding their candidates, in one walk; and then the labels (docs/DRAWING.md, "Labels").
use Rattle.std.specs.Prelude.{◌≡◌, ℕ, ◌*◌, List, ◌++◌, replicate, Option, None, Some, ◌⊎◌}
use Rattle.std.specs.List.{Contains, flat_map}
use Rattle.labelcache.specs.Candidate.{CandidateValue}
use Rattle.labelcache.specs.declared.cache.Placed.{Placed}
use Rattle.mapdefs.specs.declared.colour.Rgb.{Rgb}
use Rattle.mapdefs.specs.declared.picture.PictureFields.{PictureFields}
use Rattle.scene.specs.Scene.{SceneValue}
use Rattle.viewport.specs.View.{ViewValue}
use Rattle.compose.specs.Labels.{ArePlaced, ink_list, classified_candidates}
use Rattle.canvas.specs.Painted.{IsPainted}
use Rattle.compose.specs.Walk.{ClassifiedFeatureValue, classified_chosen, classified_shapes}

-- a picture while it is drawn, and the candidates for its labels so far, where they are collected
pub record DrawingValue : Type 0 where
  pub canvas : PictureFields
  pub labels : Option (List CandidateValue)

-- a canvas of the background
abbrev pub blank_of : ViewValue → Option Rgb → PictureFields
blank_of view background = record { width = view.width; height = view.height; pixels = replicate (view.width * view.height) background }

-- candidates with more behind them, where they are collected
abbrev pub with_candidates : Option (List CandidateValue) → List CandidateValue → Option (List CandidateValue)
with_candidates None more = None
with_candidates (Some labels) more = Some (labels ++ more)

-- the classified features have been painted over the picture, and their candidates are added where they are collected
pub record IsDrawn (scene : SceneValue) (old new : DrawingValue) (classified : List ClassifiedFeatureValue) : Type 0 where
  pub painted : IsPainted old.canvas new.canvas (flat_map (classified_shapes scene.view scene.map.symbols) classified)
  pub labelled : new.labels ≡ with_candidates old.labels (flat_map (classified_candidates scene.view scene.map.fonts) classified)

-- the candidates of the classified features are added where they are collected, and the picture is as it was
pub record IsLabelled (scene : SceneValue) (old new : DrawingValue) (classified : List ClassifiedFeatureValue) : Type 0 where
  pub canvas : new.canvas ≡ old.canvas
  pub labelled : new.labels ≡ with_candidates old.labels (flat_map (classified_candidates scene.view scene.map.fonts) classified)

-- the layer at an index that stands before others in a list has been drawn; or it stands among these again, and only its candidates are added
abbrev pub IsMentioned : SceneValue → ℕ → List ℕ → DrawingValue → DrawingValue → Type 0
IsMentioned scene index after old new =
    (Contains after index × IsLabelled scene old new (classified_chosen scene.scale scene.map index)) ⊎ IsDrawn scene old new (classified_chosen scene.scale scene.map index)

-- labels of candidates are placed on the scene's picture, and painted over it
pub record HasLabels (scene : SceneValue) (candidates : List CandidateValue) (old new : PictureFields) : Type 0 where
  pub labels : List Placed
  pub placed : ArePlaced scene.view scene.map.fonts candidates labels
  pub painted : IsPainted old new (ink_list scene.map.fonts candidates labels)
