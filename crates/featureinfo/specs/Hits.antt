-- Which features are seen near a pixel of a picture (OGC 06-042, 7.4; docs/WMS.md, "Feature information").
use Rattle.std.specs.Prelude.{◌≡◌, ◌⊎◌, ℕ, ◌<◌, ◌≤◌, Bool, true, false, pos, List, map, length, All, Some, is_some, slice_get, IfSome}
use Rattle.std.specs.List.{AllPairs, Contains, list_any}
use Rattle.geom.specs.Device.{DevicePoint, pixel_centre}
use Rattle.geom.specs.EvenOdd.{is_inside}
use Rattle.geom.specs.World.{Place}
use Rattle.scene.specs.Classes.{class_of, is_visible_layer}
use Rattle.mapdefs.specs.declared.feature.FeatureFields.{FeatureFields}
use Rattle.mapdefs.specs.declared.layer.Geometry.{Geometry}
use Rattle.mapdefs.specs.declared.layer.Geometry.TheVariants as kind
use Rattle.mapdefs.specs.declared.layer.LayerFields.{LayerFields}
use Rattle.scene.specs.Scene.{SceneValue}
use Rattle.strokes.specs.Line.{line_of, square_at}
use Rattle.strokes.specs.Line as line
use Rattle.strokes.specs.Square.{covers_square}
use Rattle.viewport.specs.View.{ViewValue, points_of}
use Rattle.featureinfo.specs.Nearby.{SomeNear, nearby_of}
use Rattle.featureinfo.specs.declared.nearby.Nearby.{Nearby}

-- the plain cover of the parts of a feature, whatever its styles are: a polygon, a line one pixel wide, or the pixels of points
abbrev pub covers_plainly : ViewValue → Geometry → List (List Place) → ℕ → ℕ → Bool
covers_plainly view kind.Polygon parts i j = is_inside (points_of view parts) (pixel_centre (pos i) (pos j))
covers_plainly view kind.Line parts i j = line.covers_pixel (line_of (points_of view parts) false 1) (pos i) (pos j)
covers_plainly view kind.Point parts i j = list_any (λ part. list_any (λ vertex. covers_square (square_at 1 vertex) (pos i) (pos j)) part) (points_of view parts)

-- some pixel of the picture lies within so many columns and so many rows of the queried one, and in the feature's plain cover
abbrev pub HasNearPixel : ViewValue → Geometry → ℕ → ℕ → ℕ → FeatureFields → Type 0
HasNearPixel view k tolerance i j feature = SomeNear (nearby_of view.width view.height tolerance i j) (covers_plainly view k feature.parts)

-- a feature of a layer that shows is hit where it has a class, and lies near the queried pixel
pub record IsHit (scene : SceneValue) (layer : LayerFields) (i j : ℕ) (feature : FeatureFields) : Type 0 where
  pub shows : is_visible_layer scene.scale layer ≡ true
  pub class : is_some (class_of scene.scale layer feature) ≡ true
  pub near : HasNearPixel scene.view layer.kind layer.tolerance i j feature

-- the feature at an index is hit
abbrev pub IsHitAt : SceneValue → LayerFields → ℕ → ℕ → ℕ → Type 0
IsHitAt scene layer i j k = (feature : FeatureFields) × (slice_get layer.features k ≡ Some feature) × IsHit scene layer i j feature

-- the first so many of the numbers that pass a test: they rise, are no more than so many, and each other one that passes
-- comes after as many
pub record AreFirst (wanted : ℕ → Type 0) (count : ℕ) (found : List ℕ) : Type 0 where
  pub rising : AllPairs (λ a b. a < b) found
  pub each : (k : ℕ) → Contains found k → wanted k
  pub few : length found ≤ count
  pub others : (k : ℕ) → wanted k → Contains found k ⊎ ((length found ≡ count) × All (λ f. f < k) found)

-- the first so many features of a layer that are hit, by their indices
abbrev pub AreHits : SceneValue → LayerFields → ℕ → ℕ → ℕ → List ℕ → Type 0
AreHits scene layer i j count found = AreFirst (IsHitAt scene layer i j) count found

-- the same for the layer at an index
abbrev pub AreHitsOf : SceneValue → ℕ → ℕ → ℕ → ℕ → List ℕ → Type 0
AreHitsOf scene index i j count found = IfSome (slice_get scene.map.layers index) (λ layer. AreHits scene layer i j count found)

-- the same for the features whose indices are among some numbers
abbrev pub AreFirstAmong : (ℕ → Type 0) → ℕ → List ℕ → List ℕ → Type 0
AreFirstAmong wanted count among found = AreFirst (λ k. Contains among k × wanted k) count found

-- a feature has a class, and lies near the pixels
pub record IsClassedNear (scene : SceneValue) (layer : LayerFields) (n : Nearby) (feature : FeatureFields) : Type 0 where
  pub class : is_some (class_of scene.scale layer feature) ≡ true
  pub near : SomeNear n (covers_plainly scene.view layer.kind feature.parts)

-- the law that a layer has at most one list of hits
abbrev pub HasOneHitList : Type 0
HasOneHitList = (scene : SceneValue) (layer : LayerFields) (i j count : ℕ) (a b : List ℕ) →
    AreHits scene layer i j count a → AreHits scene layer i j count b → a ≡ b

-- the law that a greater TOLERANCE only adds hits: a feature that is hit with a lesser one is hit with it
abbrev pub ToleranceOnlyAdds : Type 0
ToleranceOnlyAdds = (scene : SceneValue) (layer : LayerFields) (tolerance i j : ℕ) (feature : FeatureFields) →
    layer.tolerance ≤ tolerance → IsHit scene layer i j feature → IsHit scene (record layer { tolerance = tolerance }) i j feature
