-- The even-odd rule over rings (docs/DRAWING.md, "When a pixel belongs to a polygon").
use Rattle.std.specs.Prelude.{ℕ, Bool, ◌==◌, ◌++◌, ◌%◌, List, map, take, drop, count_by}
use Rattle.std.specs.List.{zip, flat_map}
use Rattle.geom.specs.Device.{DevicePoint}
use Rattle.geom.specs.Edge.{EdgeEnds, crosses_at_or_left}

-- the edge between the two points of a pair
abbrev pub edge_between : DevicePoint × DevicePoint → EdgeEnds
edge_between pair = record { from = pair.0; to = pair.1 }

-- the edges of a ring: each vertex joined to the next one, and the last to the first
abbrev pub ring_edges : List DevicePoint → List EdgeEnds
ring_edges ring = map edge_between (zip ring (drop 1 ring ++ take 1 ring))

-- the edges of all rings
abbrev pub edges : List (List DevicePoint) → List EdgeEnds
edges rings = flat_map ring_edges rings

-- the number is odd
abbrev pub is_odd : ℕ → Bool
is_odd n = n % 2 == 1

-- the number of a polygon's edges that cross the height of p at p or left of it is odd
abbrev pub is_covered : List EdgeEnds → DevicePoint → Bool
is_covered polygon p = is_odd (count_by (crosses_at_or_left p) polygon)

-- p lies inside of the rings by the even-odd rule
abbrev pub is_inside : List (List DevicePoint) → DevicePoint → Bool
is_inside rings p = is_covered (edges rings) p
