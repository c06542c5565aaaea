-- Shapes, the pixels that they cover, and the colours that they give (docs/DRAWING.md, "How features are painted").
use Rattle.std.specs.Prelude.{ℕ, ◌*◌, Bool, if◌then◌else◌, nat_lt, pos, List, [], ◌∷◌, Option, None, Some}
use Rattle.geom.specs.Device.{DevicePoint, PixelValue, pixel_centre}
use Rattle.geom.specs.EvenOdd.{is_inside}
use Rattle.bdffont.specs.Ink.{has_ink}
use Rattle.labelink.specs.Ink.{has_outline}
use Rattle.labelink.specs.declared.reach.Reach.{Reach}
use Rattle.mapdefs.specs.declared.colour.Rgb.{Rgb}
use Rattle.mapdefs.specs.declared.font.FontFields.{FontFields}
use Rattle.mapdefs.specs.declared.symbol.PixmapFields.{PixmapFields}
use Rattle.strokes.specs.Disc.{DiscValue, covers_disc}
use Rattle.strokes.specs.Line.{LineValue, line_of}
use Rattle.strokes.specs.Line as line
use Rattle.strokes.specs.Round.{round_line}
use Rattle.strokes.specs.Round as round
use Rattle.strokes.specs.Segment.{SegmentValue}
use Rattle.strokes.specs.Square.{SquareValue, covers_square}
use Rattle.symbols.specs.Stamp.{StampValue, pixel_at}
use Rattle.symbols.specs.Stamp as stamp

-- a text on the picture: its characters in a font, with its corner
pub record Written : Type 0 where
  pub font : FontFields
  pub characters : List ℕ
  pub at : PixelValue

-- a shape that is painted: rings that are filled with a colour, a line of a colour, a round line of a colour, a square of a
-- colour, a disc or a ring of a colour, or a pixmap; and the outline round all glyphs of a text, or the glyphs, in a colour
pub data PaintedShape : Type 0 where
  Fill : List (List DevicePoint) → Rgb → PaintedShape
  Stroke : LineValue → Rgb → PaintedShape
  RoundStroke : List SegmentValue → Rgb → PaintedShape
  Mark : SquareValue → Rgb → PaintedShape
  Disc : DiscValue → Rgb → PaintedShape
  Stamped : StampValue → PaintedShape
  Outlined : Written → Reach → Rgb → PaintedShape
  Inked : Written → Rgb → PaintedShape

-- whether a shape covers the pixel in a column and a row: rings cover a pixel whose centre lies inside of them
abbrev pub covers : PaintedShape → ℕ → ℕ → Bool
covers (Fill rings colour) i j = is_inside rings (pixel_centre (pos i) (pos j))
covers (Stroke stroke colour) i j = line.covers_pixel stroke (pos i) (pos j)
covers (RoundStroke segments colour) i j = round.covers_pixel segments (pos i) (pos j)
covers (Mark square colour) i j = covers_square square (pos i) (pos j)
covers (Disc disc colour) i j = covers_disc disc (pixel_centre (pos i) (pos j))
covers (Stamped pixmap) i j = stamp.covers_pixel pixmap (pos i) (pos j)
covers (Outlined w reach colour) i j = has_outline reach w.font w.characters w.at (pos i) (pos j)
covers (Inked w colour) i j = has_ink w.font w.characters w.at (pos i) (pos j)

-- the colour that a shape gives to a pixel: a pixmap has one for each pixel that it covers, the others have one for all
abbrev pub colour_in : PaintedShape → ℕ → ℕ → Option Rgb
colour_in (Fill rings colour) i j = Some colour
colour_in (Stroke stroke colour) i j = Some colour
colour_in (RoundStroke segments colour) i j = Some colour
colour_in (Mark square colour) i j = Some colour
colour_in (Disc disc colour) i j = Some colour
colour_in (Stamped pixmap) i j = pixel_at pixmap (pos i) (pos j)
colour_in (Outlined w reach colour) i j = Some colour
colour_in (Inked w colour) i j = Some colour

-- the line of a width along parts, in a colour, where a map's pixel is so many of the picture's: it is as many times as wide, and round
-- where they are more than one
abbrev pub line_by : ℕ → List (List DevicePoint) → Bool → ℕ → Rgb → PaintedShape
line_by factor parts closed width colour =
    if nat_lt 1 factor then RoundStroke (round_line parts closed (factor * width)) colour else Stroke (line_of parts closed (factor * width)) colour

-- rings are filled, and a line, a square or a disc painted, where there is a colour
abbrev pub fills : List (List DevicePoint) → Option Rgb → List PaintedShape
fills rings None = []
fills rings (Some colour) = Fill rings colour ∷ []

abbrev pub strokes : (Rgb → PaintedShape) → Option Rgb → List PaintedShape
strokes line None = []
strokes line (Some colour) = line colour ∷ []

abbrev pub marks : SquareValue → Option Rgb → List PaintedShape
marks square None = []
marks square (Some colour) = Mark square colour ∷ []

abbrev pub discs : DiscValue → Option Rgb → List PaintedShape
discs disc None = []
discs disc (Some colour) = Disc disc colour ∷ []

-- a pixmap round a pixel
abbrev pub stamps : PixelValue → PixmapFields → List PaintedShape
stamps pixel pixmap = Stamped (record { pixmap = pixmap; pixel = pixel }) ∷ []
