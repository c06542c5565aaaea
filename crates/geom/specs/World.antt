-- Places and boxes of the world (docs/MAPFILE.md, "Numbers" and "Values"; docs/DRAWING.md, "From the world to the picture").
use Rattle.std.specs.Prelude.{ℤ, ◌<ℤ◌, ◌≤ℤ◌}
use Rattle.geom.specs.declared.micro.TheConstants.{COORDINATE_LIMIT}
use Rattle.geom.specs.Range.{IsWithin}

-- a point of the world, in millionths of a degree: longitude and latitude
pub record Place : Type 0 where
  pub x : ℤ
  pub y : ℤ

-- a part of the world between two longitudes and two latitudes, its ends included
pub record Area : Type 0 where
  pub minx : ℤ
  pub miny : ℤ
  pub maxx : ℤ
  pub maxy : ℤ

-- the place lies in the box, or on its border
pub record HasPlace (area : Area) (place : Place) : Type 0 where
  pub west : area.minx ≤ℤ place.x
  pub east : place.x ≤ℤ area.maxx
  pub south : area.miny ≤ℤ place.y
  pub north : place.y ≤ℤ area.maxy

-- some place lies in both boxes
abbrev pub Meets : Area → Area → Type 0
Meets a b = (place : Place) × HasPlace a place × HasPlace b place

-- some number lies in both ranges, their ends included
abbrev pub Overlap : ℤ → ℤ → ℤ → ℤ → Type 0
Overlap start end other_start other_end =
    (z : ℤ) × (start ≤ℤ z) × (z ≤ℤ end) × (other_start ≤ℤ z) × (z ≤ℤ other_end)

-- a coordinate: a longitude or a latitude of at most 1,000 degrees in size
abbrev pub IsCoordinate : ℤ → Type 0
IsCoordinate z = IsWithin COORDINATE_LIMIT z

-- all four sides are coordinates
pub record IsInWorld (area : Area) : Type 0 where
  pub west : IsCoordinate area.minx
  pub south : IsCoordinate area.miny
  pub east : IsCoordinate area.maxx
  pub north : IsCoordinate area.maxy

-- a box of the world that has an area: its sides are coordinates, west of east and south of north
pub record IsExtent (area : Area) : Type 0 where
  pub world : IsInWorld area
  pub columns : area.minx <ℤ area.maxx
  pub rows : area.miny <ℤ area.maxy
