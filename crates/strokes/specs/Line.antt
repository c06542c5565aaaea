-- The pixels of a line of a width (docs/DRAWING.md, "When a pixel belongs to a line").
use Rattle.std.specs.Prelude.{ℕ, Bool, ◌||◌, if◌then◌else◌, ℤ, List, map, drop}
use Rattle.std.specs.List.{flat_map, list_any, zip}
use Rattle.geom.specs.Device.{DevicePoint, pixel_centre, pixel_of}
use Rattle.geom.specs.Edge.{EdgeEnds}
use Rattle.geom.specs.EvenOdd.{edge_between, ring_edges}
use Rattle.strokes.specs.Segment.{SegmentValue, covers_segment}
use Rattle.strokes.specs.Square.{SquareValue, covers_square}

-- a line: the segments of all its parts, and the squares round their vertices
pub record LineValue : Type 0 where
  pub segments : List SegmentValue
  pub squares : List SquareValue

-- each vertex of a part joined to the next one, and where the line is closed the last to the first
abbrev pub edges_of : Bool → List DevicePoint → List EdgeEnds
edges_of closed part = if closed then ring_edges part else map edge_between (zip part (drop 1 part))

-- the segment of a width along an edge
abbrev pub segment_along : ℕ → EdgeEnds → SegmentValue
segment_along width edge = record { edge = edge; width = width }

-- the segments of a part, of a width
abbrev pub segments_of : Bool → ℕ → List DevicePoint → List SegmentValue
segments_of closed width part = map (segment_along width) (edges_of closed part)

-- the square of a line's width round the pixel of a vertex
abbrev pub square_at : ℕ → DevicePoint → SquareValue
square_at width vertex = record { pixel = pixel_of vertex; size = width }

-- the line of a width along all parts
abbrev pub line_of : List (List DevicePoint) → Bool → ℕ → LineValue
line_of parts closed width = record { segments = flat_map (segments_of closed width) parts; squares = flat_map (map (square_at width)) parts }

-- a segment covers the centre of the pixel in a column and a row
abbrev pub covers_centre : ℤ → ℤ → SegmentValue → Bool
covers_centre i j s = covers_segment s.width s.edge (pixel_centre i j)

-- some segment covers the pixel's centre, or some square covers the pixel
abbrev pub covers_pixel : LineValue → ℤ → ℤ → Bool
covers_pixel line i j = list_any (covers_centre i j) line.segments || list_any (λ s. covers_square s i j) line.squares
