-- Polygons on the two sides of a chain of vertices (docs/DRAWING.md, "When a pixel belongs to a polygon" and "Smoothing").
use Rattle.std.specs.Prelude.{◌≡◌, ℕ, ◌+◌, ◌*◌, ◌<◌, true, pos, List, [], ◌∷◌, ◌++◌, reverse, Option}
use Rattle.geom.specs.Device.{DevicePoint, pixel_centre}
use Rattle.geom.specs.EvenOdd.{is_inside}
use Rattle.geom.specs.Factor.{IsFactor}
use Rattle.mapdefs.specs.declared.colour.Rgb.{Rgb}
use Rattle.smoothing.specs.Fine.{smoothed}
use Rattle.canvas.specs.Painted.{colour_at}
use Rattle.canvas.specs.Shapes.{PaintedShape, Fill}

-- a chain of vertices, with those that two rings have besides: the one goes along it, the other back
pub record Neighbours : Type 0 where
  pub first : DevicePoint
  pub between : List DevicePoint
  pub last : DevicePoint
  pub beyond : List DevicePoint
  pub before : List DevicePoint

-- the ring that goes along the chain
abbrev pub along : Neighbours → List DevicePoint
along n = n.first ∷ n.between ++ n.last ∷ n.beyond

-- the ring that goes back
abbrev pub back : Neighbours → List DevicePoint
back n = n.last ∷ reverse n.between ++ n.first ∷ n.before

-- the ring round both
abbrev pub outline : Neighbours → List DevicePoint
outline n = n.last ∷ n.beyond ++ n.first ∷ n.before

-- the law: both together cover what their outline covers
abbrev pub SharedChainsCancel : Type 0
SharedChainsCancel = (n : Neighbours) (p : DevicePoint) → is_inside (along n ∷ back n ∷ []) p ≡ is_inside (outline n ∷ []) p

-- both are painted in a colour each, over what was painted before
abbrev pub both_over : List PaintedShape → Neighbours → Rgb → Rgb → List PaintedShape
both_over under n one other = under ++ Fill (along n ∷ []) one ∷ Fill (back n ∷ []) other ∷ []

-- all fine pixels of a pixel lie inside of the outline, by a picture that is so many times as fine
abbrev pub IsWithin : ℕ → Neighbours → ℕ → ℕ → Type 0
IsWithin times n i j = (k l : ℕ) → k < times → l < times → is_inside (outline n ∷ []) (pixel_centre (pos (times * i + k)) (pos (times * j + l))) ≡ true

-- a pixel of the smoothed picture is opaque, and is that over any other ground and anything else that was painted before
pub record IsSeamless (times : ℕ) (n : Neighbours) (one other : Rgb) (ground : Option Rgb) (under : List PaintedShape) (i j : ℕ) : Type 0 where
  pub opaque : (smoothed times (colour_at ground (both_over under n one other)) i j).alpha ≡ 255
  pub same : (another : Option Rgb) (others : List PaintedShape) →
      smoothed times (colour_at ground (both_over under n one other)) i j ≡ smoothed times (colour_at another (both_over others n one other)) i j

-- the law: each pixel within the outline is so
abbrev pub HaveNoSeams : Type 0
HaveNoSeams =
    (times : ℕ) (n : Neighbours) (one other : Rgb) (ground : Option Rgb) (under : List PaintedShape) (i j : ℕ) →
    IsFactor times → IsWithin times n i j → IsSeamless times n one other ground under i j
