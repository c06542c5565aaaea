-- Scales, and what is visible at them (OGC 06-042, 7.2, the pixel of 0.28 mm; the rest docs/DRAWING.md, "Scale").
use Rattle.std.specs.Prelude.{◌≡◌, ℕ, ◌*◌, ◌≤◌, ℤ, pos, ◌*ℤ◌, ◌<ℤ◌, ◌≤ℤ◌, int_le, Bool, true, false, not, ◌||◌, ◌&&◌, ◌↔◌, IsTrue, Option, None, Some}

-- the scale of a picture: how wide the shown part of the world is on the ground, in nanometres, and by how many pixels it is shown
pub record PictureScale : Type 0 where
  pub ground : ℕ
  pub width : ℕ

-- a millionth of a degree counts as 0.111319491 m on the ground, in nanometres
abbrev pub degree_unit : ℕ
degree_unit = 111319491

-- a millionth of a metre, in nanometres
abbrev pub metre_unit : ℕ
metre_unit = 1000

-- a pixel counts as 0.28 mm, in nanometres
abbrev pub pixel_unit : ℕ
pixel_unit = 280000

-- the scale at which so many millionths of a degree are shown by that many pixels, from left to right
abbrev pub scale_of_degrees : ℕ → ℕ → PictureScale
scale_of_degrees span width = record { ground = span * degree_unit; width = width }

-- the scale at which so many millionths of a metre are
abbrev pub scale_of_metres : ℕ → ℕ → PictureScale
scale_of_metres span width = record { ground = span * metre_unit; width = width }

-- how wide the shown part of the world is on the ground, in nanometres
abbrev pub ground_width : PictureScale → ℕ
ground_width scale = scale.ground

-- how wide the picture is, in nanometres
abbrev pub picture_width : PictureScale → ℕ
picture_width scale = scale.width * pixel_unit

-- the scale denominator is the ground's width by the picture's; whether it is a bound, in millionths, or more
abbrev pub reaches : PictureScale → ℤ → Bool
reaches scale bound = int_le (bound *ℤ pos (picture_width scale)) (pos (ground_width scale * 1000000))

-- the least scale denominator is reached, if there is one
abbrev pub is_from : PictureScale → Option ℤ → Bool
is_from scale None = true
is_from scale (Some min) = reaches scale min

-- the first scale denominator that is too great isn't reached, if there is one; 0 or less is none
abbrev pub is_before : PictureScale → Option ℤ → Bool
is_before scale None = true
is_before scale (Some max) = int_le max (pos 0) || not (reaches scale max)

-- whether an object with these bounds on the scale denominator is visible: from the first on, and before the second
abbrev pub is_visible : PictureScale → Option ℤ → Option ℤ → Bool
is_visible scale min max = is_from scale min && is_before scale max

-- the scale denominator is the fraction p / q: q times the ground's width is p times the picture's
abbrev pub IsDenominator : PictureScale → ℕ → ℕ → Type 0
IsDenominator scale p q = q * ground_width scale ≡ p * picture_width scale

-- the law that a bound is reached exactly where the fraction of a million of it is at most the scale denominator
abbrev pub BoundsAreFractions : Type 0
BoundsAreFractions = (scale : PictureScale) (p q : ℕ) (bound : ℤ) → 1 ≤ scale.width → 1 ≤ q → IsDenominator scale p q →
    IsTrue (reaches scale bound) ↔ ((bound *ℤ pos q) ≤ℤ pos (p * 1000000))

-- the law that of an object up to a bound and an object from that bound on exactly one is visible
abbrev pub OneOfTwoIsVisible : Type 0
OneOfTwoIsVisible = (scale : PictureScale) (bound : ℤ) → pos 0 <ℤ bound → is_visible scale None (Some bound) ≡ not (is_visible scale (Some bound) None)

-- the law that 0.28 degrees in a pixel are shown at the scale denominator 111,319,491
abbrev pub WorkedScale : Type 0
WorkedScale = IsDenominator (scale_of_degrees 280000 1) 111319491 1

-- the scale of a tile of zoom 14 of web mercator: 256 pixels show 2,445.984905 m
abbrev pub tile_scale : PictureScale
tile_scale = scale_of_metres 2445984905 256

-- the law that 280 millionths of a metre in a pixel are shown at the scale denominator 1, and that tile at 34,123.67 or more, but
-- less than 34,123.68
pub record WorkedMetres : Type 0 where
  pub one : IsDenominator (scale_of_metres 280 1) 1 1
  pub reached : reaches tile_scale (pos 34123670000) ≡ true
  pub before : reaches tile_scale (pos 34123680000) ≡ false
