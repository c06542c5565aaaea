-- The pixels of a round line (docs/DRAWING.md, "When a pixel belongs to a round line").
use Rattle.std.specs.Prelude.{ℕ, ◌≤◌, ◌*◌, ◌^◌, ◌++◌, Bool, ◌&&◌, ◌||◌, if◌then◌else◌, nat_le, min, max, ℤ, pos, ◌+ℤ◌, ◌-ℤ◌, ◌*ℤ◌, ◌<ℤ◌, ◌≤ℤ◌, int_le, int_lt, List, map, take}
use Rattle.std.specs.Int.{int_max, int_min}
use Rattle.std.specs.List.{flat_map, list_any}
use Rattle.geom.specs.Device.{DevicePoint, pixel_centre}
use Rattle.geom.specs.Edge.{EdgeEnds}
use Rattle.geom.specs.Range.{IsBelow}
use Rattle.scanfill.specs.declared.span.Span.{Span}
use Rattle.mapdefs.specs.declared.limits.TheConstants.{MAX_FINE_WIDTH}
use Rattle.strokes.specs.Line.{edges_of, segment_along}
use Rattle.strokes.specs.Segment.{SegmentValue}

-- the width of a round segment is within its limits
pub record IsRoundSegment (s : SegmentValue) : Type 0 where
  pub some : 1 ≤ s.width
  pub most : s.width ≤ MAX_FINE_WIDTH

-- the square of a number, and of half a width, which is 8 w sixteenths of a pixel
abbrev pub square : ℤ → ℤ
square z = z *ℤ z

abbrev pub square_of_half : ℕ → ℤ
square_of_half w = square (pos (8 * w))

-- the square of the distance of two points
abbrev pub apart : DevicePoint → DevicePoint → ℤ
apart a p = square (p.x -ℤ a.x) +ℤ square (p.y -ℤ a.y)

-- how far along an edge a point lies from its first end, and how far aside of its line, both times the edge's length
abbrev pub along : EdgeEnds → DevicePoint → ℤ
along e p = (p.x -ℤ e.from.x) *ℤ (e.to.x -ℤ e.from.x) +ℤ (p.y -ℤ e.from.y) *ℤ (e.to.y -ℤ e.from.y)

abbrev pub aside : EdgeEnds → DevicePoint → ℤ
aside e p = (p.y -ℤ e.from.y) *ℤ (e.to.x -ℤ e.from.x) -ℤ (p.x -ℤ e.from.x) *ℤ (e.to.y -ℤ e.from.y)

-- a point is at most half a width away from another one
abbrev pub is_round : ℕ → DevicePoint → DevicePoint → Bool
is_round w a p = int_le (apart a p) (square_of_half w)

-- a point lies between the perpendiculars through the ends of an edge
abbrev pub is_abreast : EdgeEnds → DevicePoint → Bool
is_abreast e p = int_lt (pos 0) (along e p) && int_lt (along e p) (apart e.from e.to)

-- a point is at most half a width away from the edge's line
abbrev pub is_close : ℕ → EdgeEnds → DevicePoint → Bool
is_close w e p = int_le (square (aside e p)) (square_of_half w *ℤ apart e.from e.to)

-- a round segment covers the points at most half its width away from an end, and those between the perpendiculars that are so from its line
unfoldable pub covers_round : ℕ → EdgeEnds → DevicePoint → Bool
covers_round w e p = (is_round w e.from p || is_round w e.to p) || (is_abreast e p && is_close w e p)

-- the edge from a point to itself
abbrev pub point_edge : DevicePoint → EdgeEnds
point_edge p = record { from = p; to = p }

-- the edges of a part, and before them that of its first vertex alone, so that a part of one vertex has one
abbrev pub round_edges : Bool → List DevicePoint → List EdgeEnds
round_edges closed part = map point_edge (take 1 part) ++ edges_of closed part

-- the round segments of a part, of a width
abbrev pub round_segments : Bool → ℕ → List DevicePoint → List SegmentValue
round_segments closed width part = map (segment_along width) (round_edges closed part)

-- the round line of a width along all parts: their segments
abbrev pub round_line : List (List DevicePoint) → Bool → ℕ → List SegmentValue
round_line parts closed width = flat_map (round_segments closed width) parts

-- a round segment covers the centre of the pixel in a column and a row
abbrev pub has_centre : ℤ → ℤ → SegmentValue → Bool
has_centre i j s = covers_round s.width s.edge (pixel_centre i j)

-- a round line covers a pixel: one of its segments covers its centre
abbrev pub covers_pixel : List SegmentValue → ℤ → ℤ → Bool
covers_pixel line i j = list_any (has_centre i j) line

-- a number is the greatest whole one whose square is at most n
pub record IsRoot (n root : ℤ) : Type 0 where
  pub least : pos 0 ≤ℤ root
  pub most : square root ≤ℤ n
  pub next : n <ℤ square (root +ℤ pos 1)

-- the square of how far aside of an edge's line a point of a segment of width w may lie, times the edge's length
abbrev pub limit : ℕ → EdgeEnds → ℤ
limit w e = square_of_half w *ℤ apart e.from e.to

-- a segment is within the limits, and a number is how far aside it reaches
pub record IsReaching (s : SegmentValue) (reach : ℤ) : Type 0 where
  pub within : IsRoundSegment s
  pub root : IsRoot (limit s.width s.edge) reach
  pub range : IsBelow (2 ^ 61) reach

-- the columns of two spans, and those between them
abbrev pub joined : Span → Span → Span
joined a b = if nat_le a.to a.from then b else (if nat_le b.to b.from then a else record { from = min a.from b.from; to = max a.to b.to })

-- a number is at most half a width before the lesser of two others and after the greater one
abbrev pub is_about : ℕ → ℤ → ℤ → ℤ → Bool
is_about w a b z = int_le (int_min a b -ℤ pos (8 * w)) z && int_le z (int_max a b +ℤ pos (8 * w))
