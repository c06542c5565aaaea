-- Edges, and where they cross the height of a point (docs/DRAWING.md, "When a pixel belongs to a polygon").
use Rattle.std.specs.Prelude.{Bool, not, ◌&&◌, if◌then◌else◌, ℤ, ◌-ℤ◌, ◌*ℤ◌, int_le}
use Rattle.geom.specs.Device.{DevicePoint, IsDevicePoint}

-- a straight line from one device point to another
pub record EdgeEnds : Type 0 where
  pub from : DevicePoint
  pub to : DevicePoint

-- both ends have the sizes of device points
pub record IsDeviceEdge (e : EdgeEnds) : Type 0 where
  pub from : IsDevicePoint e.from
  pub to : IsDevicePoint e.to

-- the end with the smaller y, which lies higher up in the picture; of two equally high ones the first
abbrev pub low_end : EdgeEnds → DevicePoint
low_end e = if int_le e.from.y e.to.y then e.from else e.to

-- the other end
abbrev pub high_end : EdgeEnds → DevicePoint
high_end e = if int_le e.from.y e.to.y then e.to else e.from

-- how much y grows from the low end to the high end
abbrev pub rise : EdgeEnds → ℤ
rise e = (high_end e).y -ℤ (low_end e).y

-- how much x grows from the low end to the high end
abbrev pub run : EdgeEnds → ℤ
run e = (high_end e).x -ℤ (low_end e).x

-- exactly one end has a y of at most the height
abbrev pub crosses_height : EdgeEnds → ℤ → Bool
crosses_height e height = if int_le e.from.y height then not (int_le e.to.y height) else int_le e.to.y height

-- the edge's line has at the height of p an x of at most that of p
abbrev pub meets_at_or_left : DevicePoint → EdgeEnds → Bool
meets_at_or_left p e = int_le ((p.y -ℤ (low_end e).y) *ℤ run e) ((p.x -ℤ (low_end e).x) *ℤ rise e)

-- the edge crosses the height of p, at p or left of it
abbrev pub crosses_at_or_left : DevicePoint → EdgeEnds → Bool
crosses_at_or_left p e = crosses_height e p.y && meets_at_or_left p e
