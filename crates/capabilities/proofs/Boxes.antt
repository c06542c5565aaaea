-- The boxes of a document are the extent of its map.
use Rattle.std.proofs.Common.{true, ◌≡◌, ◌++◌, ℕ, nat_eq, ℤ, pos, neg_ℤ, Bool, false, if◌then◌else◌, int_lt, List, [], ◌∷◌, drop, map, codes, refl, sym, subst, ◌∙◌, ap, arith}
use Rattle.std.specs.Prelude.{Some, Result, Ok}
use Rattle.std.proofs.lemmas.Bool.Decides.{nat_tests}
use Rattle.std.proofs.lemmas.Int.{ints}
use Rattle.std.proofs.lemmas.List.{append_assoc}
use Rattle.std.specs.List.{list_any, before_first}
use Rattle.std.specs.Option.{option_map_or}
use Rattle.std.specs.Prelude.{Err}
use Rattle.geom.specs.Decimal.{reading}
use Rattle.geom.specs.Number.{coordinate_of}
use Rattle.geom.specs.World.{Area, IsExtent, IsCoordinate}
use Rattle.geom.specs.Written.{written}
use Rattle.geom.proofs.Products.{lt_of}
use Rattle.geom.proofs.Written.{coordinate-written}
use Rattle.mercator.specs.Ordinate.{ordinate}
use Rattle.crsaxes.specs.Axes.{crs_of, box_of_parts}
use Rattle.crsaxes.specs.Metres.{metres_down, metres_up}
use Rattle.crsaxes.specs.declared.metres.TheConstants.{METRE_LIMIT}
use Rattle.crsaxes.specs.declared.fault.AxisFault.{AxisFault}
use Rattle.crsaxes.specs.declared.fault.AxisFault.TheVariants.{UnknownCrs}
use Rattle.crsaxes.specs.declared.crs.Crs.TheVariants.{Crs84, Epsg4326}
use Rattle.crsaxes.proofs.Areas.{four-read, extent-area}
use Rattle.crsaxes.proofs.Lengths.{down-law, down-written, metres-read, up-law, up-written}
use Rattle.xmltext.specs.Escape.{is_markup}
use Rattle.std.proofs.lemmas.Bool.{and_parts, or_parts}
use Rattle.capabilities.specs.Boxes.{value_of, box_of_tag, IsOutward, AreOutward, squares, ExtentIsRead}
use Rattle.capabilities.specs.Element.{attribute}
use Rattle.capabilities.specs.World.{corner, has_metres, square_part, within_square}
use Rattle.capabilities.specs.declared.world.TheConstants.{SQUARE_LIMIT}
use Rattle.capabilities.proofs.Extents.{tag_of, tag84, tag3857, tag4326}
use Rattle.capabilities.proofs.Numbers.{is_blank, blank-elsewhere, written-lacks, written-plain}
use Rattle.capabilities.proofs.Readings.{west-read, east-read, south-read, north-read, tags-read}
use Rattle.capabilities.proofs.Sought.{before-at}

-- the attributes of a box after its last number, after its third, and so on
abbrev behind_fourth : List ℕ
behind_fourth = codes "/"

abbrev behind_third : ℤ → List ℕ
behind_third d = codes " maxy=\"" ++ (written d ++ 34 ∷ behind_fourth)

abbrev behind_second : ℤ → ℤ → List ℕ
behind_second c d = codes " maxx=\"" ++ (written c ++ 34 ∷ behind_third d)

abbrev behind_first : ℤ → ℤ → ℤ → List ℕ
behind_first b c d = codes " miny=\"" ++ (written b ++ 34 ∷ behind_second c d)

abbrev behind_system : ℤ → ℤ → ℤ → ℤ → List ℕ
behind_system a b c d = codes " minx=\"" ++ (written a ++ 34 ∷ behind_first b c d)

abbrev whole : List ℕ → ℤ → ℤ → ℤ → ℤ → List ℕ
whole crs a b c d = codes " CRS=\"" ++ (crs ++ 34 ∷ behind_system a b c d)

attribute-parts : (name value rest : List ℕ) → attribute name value ++ rest ≡ 32 ∷ (name ++ (codes "=\"" ++ (value ++ 34 ∷ rest)))
unfolding attribute
attribute-parts name value rest =
    ap (λ (x : List ℕ). 32 ∷ x) (append_assoc name (codes "=\"" ++ (value ++ codes "\"")) rest
    ∙ ap (λ (x : List ℕ). name ++ (codes "=\"" ++ x)) (append_assoc value (codes "\"") rest))

tag-whole : (crs : List ℕ) (a b c d : ℤ) → tag_of crs a b c d ≡ whole crs a b c d
unfolding corner
tag-whole crs a b c d =
    attribute-parts (codes "CRS") crs _
    ∙ ap (λ (x : List ℕ). codes " CRS=\"" ++ (crs ++ 34 ∷ x)) (low ∙ ap (λ (x : List ℕ). codes " minx=\"" ++ (written a ++ 34 ∷ (codes " miny=\"" ++ (written b ++ 34 ∷ x)))) high)
  where
    low : corner (codes "minx") a (codes "miny") b ++ (corner (codes "maxx") c (codes "maxy") d ++ codes "/")
        ≡ codes " minx=\"" ++ (written a ++ 34 ∷ (codes " miny=\"" ++ (written b ++ 34 ∷ (corner (codes "maxx") c (codes "maxy") d ++ codes "/"))))
    low = append_assoc (attribute (codes "minx") (written a)) (attribute (codes "miny") (written b)) _
        ∙ attribute-parts (codes "minx") (written a) _
        ∙ ap (λ (x : List ℕ). codes " minx=\"" ++ (written a ++ 34 ∷ x)) (attribute-parts (codes "miny") (written b) _)

    high : corner (codes "maxx") c (codes "maxy") d ++ codes "/" ≡ behind_second c d
    high = append_assoc (attribute (codes "maxx") (written c)) (attribute (codes "maxy") (written d)) _
        ∙ attribute-parts (codes "maxx") (written c) _
        ∙ ap (λ (x : List ℕ). codes " maxx=\"" ++ (written c ++ 34 ∷ x)) (attribute-parts (codes "maxy") (written d) _)

-- no value is found in bytes without a blank
past : (name v rest : List ℕ) → list_any is_blank v ≡ false → value_of name (v ++ rest) ≡ value_of name rest
past name [] rest h = refl
past name (b ∷ bs) rest h =
    let parts = or_parts (is_blank b) (list_any is_blank bs) h in
    let other : nat_eq 32 b ≡ false = grind (arith, nat_tests) in
    rw other (past name bs rest parts.1)

past-number : (name : List ℕ) (z : ℤ) (rest : List ℕ) → value_of name (written z ++ rest) ≡ value_of name rest
past-number name z rest = past name (written z) rest (written-lacks is_blank blank-elsewhere z)

-- the value of each attribute
number-at : (z : ℤ) (rest : List ℕ) → before_first is_markup (written z ++ 34 ∷ rest) ≡ written z
number-at z rest = before-at is_markup (written z) rest 34 (written-plain z) refl

minx-value : (crs : List ℕ) (a b c d : ℤ) → list_any is_blank crs ≡ false → value_of (codes "minx") (tag_of crs a b c d) ≡ written a
minx-value crs a b c d h =
    ap (value_of (codes "minx")) (tag-whole crs a b c d) ∙ past (codes "minx") crs (34 ∷ behind_system a b c d) h ∙ number-at a (behind_first b c d)

miny-value : (crs : List ℕ) (a b c d : ℤ) → list_any is_blank crs ≡ false → value_of (codes "miny") (tag_of crs a b c d) ≡ written b
miny-value crs a b c d h =
    ap (value_of (codes "miny")) (tag-whole crs a b c d)
    ∙ past (codes "miny") crs (34 ∷ behind_system a b c d) h
    ∙ past-number (codes "miny") a (34 ∷ behind_first b c d)
    ∙ number-at b (behind_second c d)

maxx-value : (crs : List ℕ) (a b c d : ℤ) → list_any is_blank crs ≡ false → value_of (codes "maxx") (tag_of crs a b c d) ≡ written c
maxx-value crs a b c d h =
    ap (value_of (codes "maxx")) (tag-whole crs a b c d)
    ∙ past (codes "maxx") crs (34 ∷ behind_system a b c d) h
    ∙ past-number (codes "maxx") a (34 ∷ behind_first b c d)
    ∙ past-number (codes "maxx") b (34 ∷ behind_second c d)
    ∙ number-at c (behind_third d)

maxy-value : (crs : List ℕ) (a b c d : ℤ) → list_any is_blank crs ≡ false → value_of (codes "maxy") (tag_of crs a b c d) ≡ written d
maxy-value crs a b c d h =
    ap (value_of (codes "maxy")) (tag-whole crs a b c d)
    ∙ past (codes "maxy") crs (34 ∷ behind_system a b c d) h
    ∙ past-number (codes "maxy") a (34 ∷ behind_first b c d)
    ∙ past-number (codes "maxy") b (34 ∷ behind_second c d)
    ∙ past-number (codes "maxy") c (34 ∷ behind_third d)
    ∙ number-at d behind_fourth

system-value : (crs : List ℕ) (a b c d : ℤ) → list_any is_markup crs ≡ false → value_of (codes "CRS") (tag_of crs a b c d) ≡ crs
system-value crs a b c d h = ap (value_of (codes "CRS")) (tag-whole crs a b c d) ∙ before-at is_markup crs (behind_system a b c d) 34 h refl

-- the box in each system
abbrev read_as : List ℕ → List ℕ → List ℕ → List ℕ → List ℕ → Result Area AxisFault
read_as crs a b c d = option_map_or (λ s. box_of_parts s (a ∷ b ∷ c ∷ d ∷ [])) (crs_of true crs) (Err UnknownCrs)

box-read : (crs : List ℕ) (a b c d : ℤ) → list_any is_blank crs ≡ false → list_any is_markup crs ≡ false →
    box_of_tag (tag_of crs a b c d) ≡ read_as crs (written a) (written b) (written c) (written d)
box-read crs a b c d h k =
    rw (system-value crs a b c d k, minx-value crs a b c d h, miny-value crs a b c d h, maxx-value crs a b c d h, maxy-value crs a b c d h) refl

box84 : (area : Area) → IsExtent area → box_of_tag (tag84 area) ≡ Ok area
box84 area e =
    box-read (codes "CRS:84") area.minx area.miny area.maxx area.maxy refl refl
    ∙ four-read Crs84 area.minx area.miny area.maxx area.maxy (λ text. refl) e.world.west e.world.south e.world.east e.world.north
    ∙ extent-area area e

box4326 : (area : Area) → IsExtent area → box_of_tag (tag4326 area) ≡ Ok area
box4326 area e =
    box-read (codes "EPSG:4326") area.miny area.minx area.maxy area.maxx refl refl
    ∙ four-read Epsg4326 area.miny area.minx area.maxy area.maxx (λ text. refl) e.world.south e.world.west e.world.north e.world.east
    ∙ extent-area area e

box3857 : (area : Area) → IsExtent area → box_of_tag (tag3857 area) ≡ Ok area
box3857 area e =
    box-read (codes "EPSG:3857") (metres_down area.minx) (metres_down area.miny) (metres_up area.maxx) (metres_up area.maxy) refl refl
    ∙ metres-read area.minx area.miny area.maxx area.maxy e.world.west e.world.south e.world.east e.world.north
    ∙ extent-area area e

-- the sides of the box in metres
outward : (area : Area) → IsExtent area → IsOutward (tag3857 area) area
outward area e =
    let a = metres_down area.minx in
    let b = metres_down area.miny in
    let c = metres_up area.maxx in
    let d = metres_up area.maxy in
    let read : List ℕ → Result ℤ _ = λ text. reading text METRE_LIMIT in
    record {
      west = (a, ap read (minx-value (codes "EPSG:3857") a b c d refl) ∙ down-written area.minx e.world.west, down-law area.minx);
      south = (b, ap read (miny-value (codes "EPSG:3857") a b c d refl) ∙ down-written area.miny e.world.south, down-law area.miny);
      east = (c, ap read (maxx-value (codes "EPSG:3857") a b c d refl) ∙ up-written area.maxx e.world.east, up-law area.maxx);
      north = (d, ap read (maxy-value (codes "EPSG:3857") a b c d refl) ∙ up-written area.maxy e.world.north, up-law area.maxy);
    }

-- what ends at the square world is a coordinate
square-coordinate : (y : ℤ) → IsCoordinate (within_square y)
square-coordinate y = go (int_lt y (neg_ℤ (pos SQUARE_LIMIT))) (int_lt (pos SQUARE_LIMIT) y) refl refl
  where
    go : (south north : Bool) → int_lt y (neg_ℤ (pos SQUARE_LIMIT)) ≡ south → int_lt (pos SQUARE_LIMIT) y ≡ north →
        IsCoordinate (if south then neg_ℤ (pos SQUARE_LIMIT) else (if north then pos SQUARE_LIMIT else y))
    go true north e f = record { least = omega (arith, ints); most = omega (arith, ints) }
    go false true e f = record { least = omega (arith, ints); most = omega (arith, ints) }
    go false false e f = record { least = omega (arith, ints, e, f); most = omega (arith, ints, e, f) }

-- so the part of the square world is an extent, where it is shown
square-extent : (offered : Bool) (area : Area) → IsExtent area → has_metres offered area ≡ true → IsExtent (square_part area)
square-extent offered area e shown =
    let part = square_part area in
    record {
      world = record { west = e.world.west; south = square-coordinate (ordinate area.miny); east = e.world.east; north = square-coordinate (ordinate area.maxy) };
      columns = e.columns;
      rows = lt_of part.miny part.maxy (and_parts offered (int_lt part.miny part.maxy) shown).1;
    }

-- what a box in metres that may be left out is read as
shown-systems : (shown : Bool) (area : Area) →
    map (value_of (codes "CRS")) (if shown then tag3857 area ∷ [] else []) ≡ map (λ (a : Area). codes "EPSG:3857") (if shown then area ∷ [] else [])
shown-systems true area =
    ap (λ (name : List ℕ). name ∷ []) (system-value (codes "EPSG:3857") (metres_down area.minx) (metres_down area.miny) (metres_up area.maxx) (metres_up area.maxy) refl)
shown-systems false area = refl

shown-boxes : (shown : Bool) (area : Area) → (shown ≡ true → IsExtent area) →
    map box_of_tag (if shown then tag3857 area ∷ [] else []) ≡ map Ok (if shown then area ∷ [] else [])
shown-boxes true area e = ap (λ (r : Result Area AxisFault). r ∷ []) (box3857 area (e refl))
shown-boxes false area e = refl

shown-outward : (shown : Bool) (area : Area) → (shown ≡ true → IsExtent area) →
    AreOutward (if shown then tag3857 area ∷ [] else []) (if shown then area ∷ [] else [])
shown-outward true area e = (outward area (e refl), tt)
shown-outward false area e = tt

one-number : (z : ℤ) → IsCoordinate z → map coordinate_of (written z ∷ []) ≡ Some z ∷ []
one-number z is = rw (coordinate-written z is) refl

pub extent-law : ExtentIsRead
extent-law n m e =
    let area = m.extent in
    let shown = has_metres m.mercator area in
    let part = square_part area in
    let is : shown ≡ true → IsExtent part = square-extent m.mercator area e in
    record {
      systems =
          ap (map (value_of (codes "CRS"))) (tags-read n m)
          ∙ rw (system-value (codes "CRS:84") area.minx area.miny area.maxx area.maxy refl, system-value (codes "EPSG:4326") area.miny area.minx area.maxy area.maxx refl)
          (ap (λ (names : List (List ℕ)). codes "CRS:84" ∷ codes "EPSG:4326" ∷ names) (shown-systems shown part));
      boxes =
          ap (map box_of_tag) (tags-read n m)
          ∙ rw (box84 area e, box4326 area e) (ap (λ (areas : List (Result Area AxisFault)). Ok area ∷ Ok area ∷ areas) (shown-boxes shown part is));
      outward = subst (λ (tags : List (List ℕ)). AreOutward (drop 2 tags) (squares m)) (sym (tags-read n m)) (shown-outward shown part is);
      west = ap (map coordinate_of) (west-read n m) ∙ one-number area.minx e.world.west;
      east = ap (map coordinate_of) (east-read n m) ∙ one-number area.maxx e.world.east;
      south = ap (map coordinate_of) (south-read n m) ∙ one-number area.miny e.world.south;
      north = ap (map coordinate_of) (north-read n m) ∙ one-number area.maxy e.world.north;
    }
