-- Segments that are walked row by row, or turned ones column by column (docs/DRAWING.md, "When a pixel belongs to a line").
use Rattle.std.specs.Prelude.{◌≡◌, ℕ, ◌*◌, ◌^◌, ◌≤◌, Bool, ◌&&◌, nat_lt, ℤ, pos, neg_ℤ, ◌+ℤ◌, ◌-ℤ◌, ◌*ℤ◌, ◌<ℤ◌, ◌≤ℤ◌}
use Rattle.std.specs.Int.RustNames.{unsigned_abs}
use Rattle.geom.specs.Device.{DevicePoint, pixel_centre}
use Rattle.geom.specs.Edge.{EdgeEnds, high_end, low_end, rise, run}
use Rattle.geom.specs.Range.{IsBelow}
use Rattle.geom.specs.declared.side.TheConstants.{MAX_PICTURE_SIDE}
use Rattle.mapdefs.specs.declared.limits.TheConstants.{MAX_FINE_WIDTH}
use Rattle.strokes.specs.Segment.{SegmentValue, right_of}

-- numbers that grow or fall by equal steps, and what they are divided by
pub record StepsValue : Type 0 where
  pub at : ℤ
  pub by : ℤ
  pub each : ℤ

-- the quotient and what is left of a number, a step of at most the divisor, and the sizes of all
pub record IsStepping (quotient left by each : ℤ) : Type 0 where
  pub some : pos 0 <ℤ each
  pub least : pos 0 ≤ℤ left
  pub less : left <ℤ each
  pub forth : by ≤ℤ each
  pub back : neg_ℤ each ≤ℤ by
  pub divisor : IsBelow (2 ^ 40) each
  pub number : IsBelow (2 ^ 53) (quotient *ℤ each +ℤ left)

-- a point lies within 2^20 pixels of the picture's corner each way, so that i64 holds what is computed of it
abbrev pub is_small_point : DevicePoint → Bool
is_small_point p = nat_lt (unsigned_abs p.x) (2 ^ 24) && nat_lt (unsigned_abs p.y) (2 ^ 24)

-- both ends are such
abbrev pub is_small : EdgeEnds → Bool
is_small e = is_small_point (low_end e) && is_small_point (high_end e)

-- a segment that is walked by its rows: its numbers are small, and it goes down, by as much as it goes across at least
pub record IsStrip (s : SegmentValue) : Type 0 where
  pub low_across : IsBelow (2 ^ 24) (low_end s.edge).x
  pub low_down : IsBelow (2 ^ 24) (low_end s.edge).y
  pub high_across : IsBelow (2 ^ 24) (high_end s.edge).x
  pub high_down : IsBelow (2 ^ 24) (high_end s.edge).y
  pub rises : pos 0 <ℤ rise s.edge
  pub right : run s.edge ≤ℤ rise s.edge
  pub left : neg_ℤ (rise s.edge) ≤ℤ run s.edge
  pub some : 1 ≤ s.width
  pub most : s.width ≤ MAX_FINE_WIDTH

-- divided by 16 times the rise and rounded down, it is the column before the first one that a segment of width w comes near to in a row
abbrev pub reached : ℕ → EdgeEnds → ℕ → ℤ
reached w e row = neg_ℤ (pos (8 * w) *ℤ rise e) -ℤ right_of e (pixel_centre (pos 0) (pos row))

-- a walk down a segment, and the row that it has come to
pub record RowWalkValue : Type 0 where
  pub edge : EdgeEnds
  pub width : ℕ
  pub row : ℕ

-- the steps of a walk are those of its row
pub record IsRowWalk (edge : EdgeEnds) (width row : ℕ) (steps : StepsValue) : Type 0 where
  pub strip : IsStrip (record { edge = edge; width = width })
  pub row_most : row ≤ MAX_PICTURE_SIDE
  pub at : steps.at ≡ reached width edge row
  pub by : steps.by ≡ pos 16 *ℤ run edge
  pub each : steps.each ≡ pos 16 *ℤ rise edge
