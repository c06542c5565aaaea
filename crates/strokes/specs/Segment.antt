-- The pixels of a segment of a line (docs/DRAWING.md, "When a pixel belongs to a line").
use Rattle.std.specs.Prelude.{ℕ, ◌≤◌, ◌*◌, Bool, ◌&&◌, ◌||◌, if◌then◌else◌, nat_lt, ℤ, pos, neg_ℤ, ◌+ℤ◌, ◌-ℤ◌, ◌*ℤ◌, int_le, int_lt}
use Rattle.std.specs.Int.RustNames.{unsigned_abs}
use Rattle.geom.specs.Device.{DevicePoint}
use Rattle.geom.specs.Edge.{EdgeEnds, low_end, high_end, rise, run}
use Rattle.mapdefs.specs.declared.limits.TheConstants.{MAX_FINE_WIDTH}

-- a segment: its edge, and its width
pub record SegmentValue : Type 0 where
  pub edge : EdgeEnds
  pub width : ℕ

-- the width of a segment is within its limits
pub record IsSegment (s : SegmentValue) : Type 0 where
  pub some : 1 ≤ s.width
  pub most : s.width ≤ MAX_FINE_WIDTH

-- across and down exchanged, of a point, and of a segment from its upper end to the other
abbrev pub turned : DevicePoint → DevicePoint
turned p = record { x = p.y; y = p.x }

abbrev pub turned_edge : EdgeEnds → EdgeEnds
turned_edge e = record { from = turned (low_end e); to = turned (high_end e) }

-- a segment goes further down than across
abbrev pub is_steep : EdgeEnds → Bool
is_steep e = nat_lt (unsigned_abs (run e)) (unsigned_abs (rise e))

-- a height lies between the ends, both included
abbrev pub is_between : EdgeEnds → ℤ → Bool
is_between e y = int_le (low_end e).y y && int_le y (high_end e).y

-- how far a point lies right of the segment's exact line, times its rise
abbrev pub right_of : EdgeEnds → DevicePoint → ℤ
right_of e p = (p.x -ℤ (low_end e).x) *ℤ rise e -ℤ (p.y -ℤ (low_end e).y) *ℤ run e

-- twice that is more than -16 w and at most 16 w, times the rise
abbrev pub is_near : ℕ → EdgeEnds → DevicePoint → Bool
is_near w e p = int_lt (neg_ℤ (pos (16 * w) *ℤ rise e)) (pos 2 *ℤ right_of e p) && int_le (pos 2 *ℤ right_of e p) (pos (16 * w) *ℤ rise e)

-- a segment of width w covers a point by its rows
abbrev pub covers_by_rows : ℕ → EdgeEnds → DevicePoint → Bool
covers_by_rows w e p = is_between e p.y && is_near w e p

-- it covers a point by its rows where it is steep, else by its columns
unfoldable pub covers_segment : ℕ → EdgeEnds → DevicePoint → Bool
covers_segment w e p = if is_steep e then covers_by_rows w e p else covers_by_rows w (turned_edge e) (turned p)

-- both ends lie left of x, and both lie right of it
abbrev pub are_left_of : EdgeEnds → ℤ → Bool
are_left_of e x = int_lt (low_end e).x x && int_lt (high_end e).x x

abbrev pub are_right_of : EdgeEnds → ℤ → Bool
are_right_of e x = int_lt x (low_end e).x && int_lt x (high_end e).x

-- x lies more than 8 w right of both ends, or left of both: no point at that x is near
abbrev pub is_beyond : ℕ → EdgeEnds → ℤ → Bool
is_beyond w e x = are_left_of e (x -ℤ pos (8 * w)) || are_right_of e (x +ℤ pos (8 * w))
