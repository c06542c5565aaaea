-- Where labels are anchored (docs/DRAWING.md, "Labels").
use Rattle.std.specs.Prelude.{◌≡◌, ℕ, ◌/◌, ◌&&◌, Bool, if◌then◌else◌, ℤ, pos, ◌+ℤ◌, int_le, int_lt, List, [], ◌∷◌, map, Option, None, Some, slice_get, length}
use Rattle.std.specs.Int.{int_div_euclid, int_max, int_min}
use Rattle.std.specs.List.{fold}
use Rattle.std.specs.Option.{option_and_then}
use Rattle.geom.specs.Device.{PixelValue, pixel_of}
use Rattle.geom.specs.World.{Place}
use Rattle.mapdefs.specs.Near.{HasBoxIn}
use Rattle.mapdefs.specs.declared.feature.FeatureFields.{FeatureFields}
use Rattle.mapdefs.specs.declared.layer.Geometry.{Geometry}
use Rattle.mapdefs.specs.declared.layer.Geometry.TheVariants as kind
use Rattle.viewport.specs.View.{IsView, ViewValue, device_point, window}

-- the middle between two numbers, halved downwards
abbrev pub halfway : ℤ → ℤ → ℤ
halfway a b = int_div_euclid (a +ℤ b) (pos 2)

-- the middle between the least and the greatest of some numbers
abbrev pub middle : ℤ → List ℤ → ℤ
middle z zs = halfway (fold int_min z zs) (fold int_max z zs)

-- the middle of the box of some places
abbrev pub middle_of : Place → List Place → Place
middle_of p ps = record { x = middle p.x (map (λ q. q.x) ps); y = middle p.y (map (λ q. q.y) ps) }

-- where a part of a feature has its anchor: points at the first, a line at the vertex in its middle, a ring in the middle of its box
abbrev pub anchor_on : Geometry → List Place → Option Place
anchor_on kind.Point part = slice_get part 0
anchor_on kind.Line part = slice_get part (length part / 2)
anchor_on kind.Polygon [] = None
anchor_on kind.Polygon (p ∷ ps) = Some (middle_of p ps)

-- where a feature has its anchor: on its first part
abbrev pub anchor_place : Geometry → FeatureFields → Option Place
anchor_place kind feature = option_and_then (anchor_on kind) (slice_get feature.parts 0)

-- the pixel lies in the picture
abbrev pub is_shown : ViewValue → PixelValue → Bool
is_shown view p = (int_le (pos 0) p.i && int_lt p.i (pos view.width)) && (int_le (pos 0) p.j && int_lt p.j (pos view.height))

-- the pixel that a place lies in, where the pixel lies in the picture
abbrev pub shown_pixel : ViewValue → Place → Option PixelValue
shown_pixel view place = let pixel = pixel_of (device_point view place) in if is_shown view pixel then Some pixel else None

-- the pixel of a feature's anchor, where it has one and the pixel lies in the picture
abbrev pub shown_anchor : ViewValue → Geometry → FeatureFields → Option PixelValue
shown_anchor view kind feature = option_and_then (shown_pixel view) (anchor_place kind feature)

-- the law: where the pixel of a feature's anchor lies in the picture, its box meets the window of every margin
abbrev pub AnchorsAreNear : Type 0
AnchorsAreNear = (view : ViewValue) (margin : ℕ) (k : Geometry) (feature : FeatureFields) (p : PixelValue) →
    IsView view →
    shown_anchor view k feature ≡ Some p → HasBoxIn (window view margin) feature
