-- Where a text has neither ink nor an outline (docs/DRAWING.md, "Labels").
use Rattle.std.specs.Prelude.{◌≡◌, ℕ, ◌<◌, ℤ, ◌+ℤ◌, false, List, pos}
use Rattle.geom.specs.Device.{PixelValue}
use Rattle.mapdefs.specs.declared.font.BitmapBox.{BitmapBox}
use Rattle.mapdefs.specs.declared.font.FontFields.{FontFields}
use Rattle.bdffont.specs.Ink.{has_ink}
use Rattle.labelink.specs.Ink.{has_outline}
use Rattle.labelink.specs.declared.reach.Reach.{Reach}
use Rattle.labelink.specs.declared.reach.Reach.TheVariants.{Neighbours, Disc}

-- how many columns and rows from ink an outline reaches
abbrev pub pixels_of : Reach → ℕ
pixels_of Neighbours = 1
pixels_of (Disc r) = r

-- whatever its characters are, a text in the font whose corner is a pixel has no ink and no such outline on a picture of that width and height
abbrev pub ShowsNothing : FontFields → Reach → PixelValue → ℕ → ℕ → Type 0
ShowsNothing font reach at width height = (characters : List ℕ) (i j : ℕ) → i < width → j < height →
    (has_ink font characters at (pos i) (pos j) ≡ false) × (has_outline reach font characters at (pos i) (pos j) ≡ false)

-- the first row under the line that the letters of a text stand on, whose corner is a pixel, in a font with that box
abbrev pub line_of : BitmapBox → PixelValue → ℤ
line_of font at = at.j +ℤ pos font.height +ℤ font.yoff
