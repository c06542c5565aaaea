-- What a client finds of the map's extent in the document (OGC 06-042, 6.7.2, 7.2.4.6.6 and 7.2.4.6.8).
use Rattle.std.specs.Prelude.{◌≡◌, ◌==◌, ◌||◌, ◌++◌, ℕ, ℤ, nat_eq, if◌then◌else◌, Bool, true, List, [], ◌∷◌, length, drop, map, codes, Option, Some, Result, Ok, Err}
use Rattle.std.specs.List.{starts_with, before_first}
use Rattle.std.specs.Option.{option_map_or}
use Rattle.geom.specs.Decimal.{reading}
use Rattle.geom.specs.Number.{coordinate_of}
use Rattle.geom.specs.World.{Area, IsExtent}
use Rattle.crsaxes.specs.Axes.{crs_of, box_of_parts}
use Rattle.crsaxes.specs.Metres.{IsRoundedDown, IsRoundedUp}
use Rattle.crsaxes.specs.declared.metres.TheConstants.{METRE_LIMIT}
use Rattle.crsaxes.specs.declared.fault.AxisFault.{AxisFault}
use Rattle.crsaxes.specs.declared.fault.AxisFault.TheVariants.{UnknownCrs}
use Rattle.mapdefs.specs.declared.map.MapFields.{MapFields}
use Rattle.xmltext.specs.Escape.{is_markup}
use Rattle.capabilities.specs.Document.{document}
use Rattle.capabilities.specs.World.{has_metres, square_part}

-- the byte begins or ends a tag
abbrev pub is_edge : ℕ → Bool
is_edge b = b == 60 || b == 62

-- the bytes after each `<` that these bytes follow, from their end up to where a tag begins or ends
abbrev pub parts_behind : List ℕ → List ℕ → List (List ℕ)
parts_behind begin [] = []
parts_behind begin (b ∷ bs) =
    if starts_with nat_eq (b ∷ bs) (60 ∷ begin)
    then before_first is_edge (drop (length (60 ∷ begin)) (b ∷ bs)) ∷ parts_behind begin bs
    else parts_behind begin bs

-- the value of an attribute among those of a tag
abbrev pub value_of : List ℕ → List ℕ → List ℕ
value_of name [] = []
value_of name (b ∷ bs) =
    if starts_with nat_eq (b ∷ bs) (32 ∷ (name ++ codes "=\""))
    then before_first is_markup (drop (length (32 ∷ (name ++ codes "=\""))) (b ∷ bs))
    else value_of name bs

-- the numbers in the elements of a name
abbrev pub numbers_of : List ℕ → List ℕ → List (Option ℤ)
numbers_of name text = map coordinate_of (parts_behind (name ++ codes ">") text)

-- the systems of the boxes, each by its name
abbrev pub systems_of : List ℕ → List (List ℕ)
systems_of text = map (value_of (codes "CRS")) (parts_behind (codes "BoundingBox") text)

-- the box among the attributes of a tag: what its four numbers mean as the parameter BBOX of a query in the same system
abbrev pub box_of_tag : List ℕ → Result Area AxisFault
box_of_tag tag =
    option_map_or (λ crs. box_of_parts crs
    (value_of (codes "minx") tag ∷ value_of (codes "miny") tag ∷ value_of (codes "maxx") tag ∷ value_of (codes "maxy") tag ∷ []))
    (crs_of true (value_of (codes "CRS") tag)) (Err UnknownCrs)

-- an attribute of a tag is a number of metres that is as is said
abbrev pub HasMetres : List ℕ → List ℕ → (ℤ → Type 0) → Type 0
HasMetres tag name IsSo = (metres : ℤ) × (reading (value_of name tag) METRE_LIMIT ≡ Ok metres) × IsSo metres

-- the sides of a tag's box are those of an area, rounded outwards to a millionth of a metre
pub record IsOutward (tag : List ℕ) (area : Area) : Type 0 where
  pub west : HasMetres tag (codes "minx") (IsRoundedDown area.minx)
  pub south : HasMetres tag (codes "miny") (IsRoundedDown area.miny)
  pub east : HasMetres tag (codes "maxx") (IsRoundedUp area.maxx)
  pub north : HasMetres tag (codes "maxy") (IsRoundedUp area.maxy)

abbrev pub AreOutward : List (List ℕ) → List Area → Type 0
AreOutward [] [] = Unit {0}
AreOutward (tag ∷ tags) (area ∷ areas) = IsOutward tag area × AreOutward tags areas
AreOutward [] (area ∷ areas) = ⊥
AreOutward (tag ∷ tags) [] = ⊥

-- the part of the square world that the extent of a map has, if web mercator is offered and there is one
abbrev pub squares : MapFields → List Area
squares m = if has_metres m.mercator m.extent then square_part m.extent ∷ [] else []

-- the law that the document has a box in each system, that each in degrees is the extent of the map, and that the one in metres is its
-- part of the square world: read as a query's, it is that part, and its sides are rounded outwards
pub record BoxesAreTheExtent (sequence : ℕ) (m : MapFields) : Type 0 where
  pub systems : systems_of (document sequence m) ≡ codes "CRS:84" ∷ codes "EPSG:4326" ∷ map (λ (area : Area). codes "EPSG:3857") (squares m)
  pub boxes : map box_of_tag (parts_behind (codes "BoundingBox") (document sequence m)) ≡ Ok m.extent ∷ Ok m.extent ∷ map Ok (squares m)
  pub outward : AreOutward (drop 2 (parts_behind (codes "BoundingBox") (document sequence m))) (squares m)
  pub west : numbers_of (codes "westBoundLongitude") (document sequence m) ≡ Some m.extent.minx ∷ []
  pub east : numbers_of (codes "eastBoundLongitude") (document sequence m) ≡ Some m.extent.maxx ∷ []
  pub south : numbers_of (codes "southBoundLatitude") (document sequence m) ≡ Some m.extent.miny ∷ []
  pub north : numbers_of (codes "northBoundLatitude") (document sequence m) ≡ Some m.extent.maxy ∷ []

-- of every map whose extent is one
abbrev pub ExtentIsRead : Type 0
ExtentIsRead = (sequence : ℕ) (m : MapFields) → IsExtent m.extent → BoxesAreTheExtent sequence m
