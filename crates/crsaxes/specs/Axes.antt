-- Coordinate reference systems and their axis orders (OGC 06-042, 7.3; docs/WMS.md, "Axis order").
use Rattle.std.specs.Prelude.{◌≡◌, ℕ, Bool, ◌==◌, ◌&&◌, nat_eq, if◌then◌else◌, List, [], ◌∷◌, ◌*◌, ℤ, pos, ◌-ℤ◌, int_lt, unsigned_abs, Option, None, Some, Result, Ok, Err, codes}
use Rattle.std.specs.List.{slice_split}
use Rattle.std.specs.Option.{option_map, option_map_or}
use Rattle.std.specs.Cmp.Lexicographic.{pointwise}
use Rattle.std.specs.Result.{result_ok}
use Rattle.geom.specs.Decimal.{nearest, reading, signed}
use Rattle.geom.specs.Number.{coordinate_of}
use Rattle.geom.specs.World.{Area}
use Rattle.crsaxes.specs.declared.metres.TheConstants.{METRE_LIMIT}
use Rattle.crsaxes.specs.declared.crs.Crs.{Crs}
use Rattle.crsaxes.specs.declared.crs.Crs.TheVariants.{Crs84, Epsg3857, Epsg4326}
use Rattle.crsaxes.specs.declared.fault.AxisFault.{AxisFault}
use Rattle.crsaxes.specs.declared.fault.AxisFault.TheVariants.{UnknownCrs, NotFour, NotANumber, Empty}

-- the coordinate reference system of a name, byte by byte; web mercator only where it is offered
abbrev pub crs_of : Bool → List ℕ → Option Crs
crs_of mercator name =
    if pointwise nat_eq name (codes "CRS:84") then Some Crs84
    else (if pointwise nat_eq name (codes "EPSG:4326") then Some Epsg4326
    else (if mercator && pointwise nat_eq name (codes "EPSG:3857") then Some Epsg3857 else None))

-- a comma
abbrev pub is_comma : ℕ → Bool
is_comma b = b == 44

-- the parts of a text of coordinates, between commas
abbrev pub parts : List ℕ → List (List ℕ)
parts text = slice_split is_comma text

-- a box, if it has an area
abbrev pub with_area : Area → Result Area AxisFault
with_area area = if int_lt area.minx area.maxx && int_lt area.miny area.maxy then Ok area else Err Empty

-- a length on the equator, in millionths of a metre, as millionths of a degree: 20,037,508.342789244 m are 180 degrees
abbrev pub equator_of : ℤ → ℤ
equator_of metres = signed (int_lt metres (pos 0)) (nearest (45000000000 * unsigned_abs metres) 5009377085697311)

-- an easting or a northing that a text means, in millionths of a metre
abbrev pub metres_of : List ℕ → Option ℤ
metres_of text = result_ok (reading text METRE_LIMIT)

-- the value of an axis that a text means: degrees, and in web mercator metres that count as degrees of the equator
abbrev pub axis_of : Crs → List ℕ → Option ℤ
axis_of Crs84 text = coordinate_of text
axis_of Epsg4326 text = coordinate_of text
axis_of Epsg3857 text = option_map equator_of (metres_of text)

-- the box of the least values of both axes and the greatest: CRS:84 has the longitude first, EPSG:4326 the latitude, EPSG:3857 the easting
abbrev pub box_in : Crs → ℤ → ℤ → ℤ → ℤ → Area
box_in Crs84 a b c d = record { minx = a; miny = b; maxx = c; maxy = d }
box_in Epsg4326 a b c d = record { minx = b; miny = a; maxx = d; maxy = c }
box_in Epsg3857 a b c d = record { minx = a; miny = b; maxx = c; maxy = d }

-- the box of four coordinates, if none of them is missing
abbrev pub box_of : Crs → Option ℤ → Option ℤ → Option ℤ → Option ℤ → Result Area AxisFault
box_of crs (Some a) (Some b) (Some c) (Some d) = with_area (box_in crs a b c d)
box_of crs _ _ _ _ = Err NotANumber

-- the box of some parts: there have to be four
abbrev pub box_of_parts : Crs → List (List ℕ) → Result Area AxisFault
box_of_parts crs (a ∷ b ∷ c ∷ d ∷ []) = box_of crs (axis_of crs a) (axis_of crs b) (axis_of crs c) (axis_of crs d)
box_of_parts crs _ = Err NotFour

-- the box that a text means in the system of a name, or the first fault
abbrev pub bbox : Bool → List ℕ → List ℕ → Result Area AxisFault
bbox mercator name text = option_map_or (λ crs. box_of_parts crs (parts text)) (crs_of mercator name) (Err UnknownCrs)

-- the distance from one easting to another
abbrev pub distance : Option ℤ → Option ℤ → Option ℕ
distance (Some west) (Some east) = Some (unsigned_abs (east -ℤ west))
distance _ _ = None

-- how wide the box of some parts is in millionths of a metre, if its system is in metres: the difference of the two eastings as they are read
abbrev pub metres_across : Crs → List (List ℕ) → Option ℕ
metres_across Epsg3857 (a ∷ b ∷ c ∷ d ∷ []) = distance (metres_of a) (metres_of c)
metres_across _ _ = None

-- the law that EPSG:4326 has latitudes where CRS:84 has longitudes, and the other way round
abbrev pub AxesAreExchanged : Type 0
AxesAreExchanged = (west south east north : List ℕ) →
    box_of_parts Epsg4326 (south ∷ west ∷ north ∷ east ∷ []) ≡ box_of_parts Crs84 (west ∷ south ∷ east ∷ north ∷ [])
