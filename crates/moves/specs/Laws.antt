-- What a shape covers as it lies from a pixel: in each column and row what it covers as many columns and rows behind that pixel
-- (docs/DRAWING.md, "Pictures by blocks").
use Rattle.std.specs.Prelude.{◌≡◌, ℕ, Bool, ℤ, ◌+ℤ◌, List, map}
use Rattle.bdffont.specs.Ink.{has_ink}
use Rattle.geom.specs.Device.{DevicePoint, PixelValue, pixel_centre, pixel_of}
use Rattle.geom.specs.EvenOdd.{is_inside}
use Rattle.labelink.specs.Ink.{has_outline}
use Rattle.labelink.specs.declared.reach.Reach.{Reach}
use Rattle.mapdefs.specs.declared.font.FontFields.{FontFields}
use Rattle.strokes.specs.Disc.{DiscValue, covers_disc}
use Rattle.strokes.specs.Line.{LineValue, line_of}
use Rattle.strokes.specs.Line as line
use Rattle.strokes.specs.Segment.{SegmentValue}
use Rattle.strokes.specs.Square.{SquareValue, covers_square}
use Rattle.symbols.specs.Stamp.{StampValue, pixel_at}
use Rattle.symbols.specs.Stamp as stamp
use Rattle.moves.specs.Moves.{disc_from, line_from, pixel_from, point_from, points_from, segment_from, square_from, stamp_from}
use Rattle.strokes.specs.Round.{round_line}
use Rattle.strokes.specs.Round as round

-- a test of what lies from the pixel is the other test that many columns and rows further
abbrev pub IsFrom : {X : Type 0} → PixelValue → (ℤ → ℤ → X) → (ℤ → ℤ → X) → Type 0
IsFrom corner moved whole = (i j : ℤ) → moved i j ≡ whole (corner.i +ℤ i) (corner.j +ℤ j)

-- a place lies in the pixel that its point lies in, from wherever they are counted
abbrev pub PixelsMove : Type 0
PixelsMove = (corner : PixelValue) (p : DevicePoint) → pixel_of (point_from corner p) ≡ pixel_from corner (pixel_of p)

-- rings
abbrev pub RingsMove : Type 0
RingsMove = (corner : PixelValue) (rings : List (List DevicePoint)) →
    IsFrom corner (λ i j. is_inside (points_from corner rings) (pixel_centre i j)) (λ i j. is_inside rings (pixel_centre i j))

-- the line along parts that lie from the pixel is the line along the parts, from that pixel
abbrev pub LinesAreMoved : Type 0
LinesAreMoved = (corner : PixelValue) (parts : List (List DevicePoint)) (closed : Bool) (width : ℕ) →
    line_of (points_from corner parts) closed width ≡ line_from corner (line_of parts closed width)

-- lines
abbrev pub LinesMove : Type 0
LinesMove = (corner : PixelValue) (l : LineValue) → IsFrom corner (line.covers_pixel (line_from corner l)) (line.covers_pixel l)

-- round lines: so are the segments of one along parts
abbrev pub RoundLinesAreMoved : Type 0
RoundLinesAreMoved = (corner : PixelValue) (parts : List (List DevicePoint)) (closed : Bool) (width : ℕ) →
    round_line (points_from corner parts) closed width ≡ map (segment_from corner) (round_line parts closed width)

abbrev pub RoundLinesMove : Type 0
RoundLinesMove = (corner : PixelValue) (segments : List SegmentValue) →
    IsFrom corner (round.covers_pixel (map (segment_from corner) segments)) (round.covers_pixel segments)

-- squares
abbrev pub SquaresMove : Type 0
SquaresMove = (corner : PixelValue) (s : SquareValue) → IsFrom corner (covers_square (square_from corner s)) (covers_square s)

-- discs
abbrev pub DiscsMove : Type 0
DiscsMove = (corner : PixelValue) (d : DiscValue) →
    IsFrom corner (λ i j. covers_disc (disc_from corner d) (pixel_centre i j)) (λ i j. covers_disc d (pixel_centre i j))

-- stamps, and their colours
abbrev pub StampsMove : Type 0
StampsMove = (corner : PixelValue) (s : StampValue) → IsFrom corner (stamp.covers_pixel (stamp_from corner s)) (stamp.covers_pixel s)

abbrev pub StampColoursMove : Type 0
StampColoursMove = (corner : PixelValue) (s : StampValue) → IsFrom corner (pixel_at (stamp_from corner s)) (pixel_at s)

-- texts, and their outlines
abbrev pub InkMoves : Type 0
InkMoves = (corner : PixelValue) (font : FontFields) (characters : List ℕ) (at : PixelValue) →
    IsFrom corner (has_ink font characters (pixel_from corner at)) (has_ink font characters at)

abbrev pub OutlinesMove : Type 0
OutlinesMove = (corner : PixelValue) (reach : Reach) (font : FontFields) (characters : List ℕ) (at : PixelValue) →
    IsFrom corner (has_outline reach font characters (pixel_from corner at)) (has_outline reach font characters at)
