-- The extent of a map (docs/MAPFILE.md, "Values").
use Rattle.std.specs.Prelude.{ℤ, Bool, int_lt, nat_le, unsigned_abs, ◌&&◌, if◌then◌else◌, Option, None, Some}
use Rattle.geom.specs.declared.micro.TheConstants.{COORDINATE_LIMIT}
use Rattle.geom.specs.World.{Area}

-- a number that is a coordinate
abbrev pub is_coordinate : ℤ → Bool
is_coordinate number = nat_le (unsigned_abs number) COORDINATE_LIMIT

-- the east lies to the east of the west, and the north to the north of the south
abbrev pub has_area : ℤ → ℤ → ℤ → ℤ → Bool
has_area minx miny maxx maxy = int_lt minx maxx && int_lt miny maxy

-- the box of these sides, where they are coordinates and it has an area
abbrev pub extent_of : ℤ → ℤ → ℤ → ℤ → Option Area
extent_of minx miny maxx maxy =
    if (is_coordinate minx && is_coordinate miny) && (is_coordinate maxx && is_coordinate maxy) && has_area minx miny maxx maxy
    then Some (record { minx = minx; miny = miny; maxx = maxx; maxy = maxy }) else None
