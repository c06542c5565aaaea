-- Points, lines, squares and stamps as they lie from a pixel of the picture (docs/DRAWING.md, "Pictures by blocks").
use Rattle.std.specs.Prelude.{pos, ◌-ℤ◌, ◌*ℤ◌, List, map}
use Rattle.geom.specs.Device.{DevicePoint, PixelValue}
use Rattle.geom.specs.Edge.{EdgeEnds}
use Rattle.strokes.specs.Disc.{DiscValue}
use Rattle.strokes.specs.Line.{LineValue}
use Rattle.strokes.specs.Segment.{SegmentValue}
use Rattle.strokes.specs.Square.{SquareValue}
use Rattle.symbols.specs.Stamp.{StampValue}

-- where a point lies from the upper left corner of a pixel
abbrev pub point_from : PixelValue → DevicePoint → DevicePoint
point_from corner p = record { x = p.x -ℤ pos 16 *ℤ corner.i; y = p.y -ℤ pos 16 *ℤ corner.j }

-- where the points of some parts lie from it
abbrev pub points_from : PixelValue → List (List DevicePoint) → List (List DevicePoint)
points_from corner parts = map (map (point_from corner)) parts

-- how many columns and rows a pixel lies from another one
abbrev pub pixel_from : PixelValue → PixelValue → PixelValue
pixel_from corner at = record { i = at.i -ℤ corner.i; j = at.j -ℤ corner.j }

-- an edge, a segment, a square, a line, a disc and a stamp from a pixel
abbrev pub edge_from : PixelValue → EdgeEnds → EdgeEnds
edge_from corner e = record { from = point_from corner e.from; to = point_from corner e.to }

abbrev pub segment_from : PixelValue → SegmentValue → SegmentValue
segment_from corner s = record { edge = edge_from corner s.edge; width = s.width }

abbrev pub square_from : PixelValue → SquareValue → SquareValue
square_from corner s = record { pixel = pixel_from corner s.pixel; size = s.size }

abbrev pub line_from : PixelValue → LineValue → LineValue
line_from corner l = record { segments = map (segment_from corner) l.segments; squares = map (square_from corner) l.squares }

abbrev pub disc_from : PixelValue → DiscValue → DiscValue
disc_from corner d = record { at = point_from corner d.at; size = d.size; hole = d.hole }

abbrev pub stamp_from : PixelValue → StampValue → StampValue
stamp_from corner s = record { pixmap = s.pixmap; pixel = pixel_from corner s.pixel }
