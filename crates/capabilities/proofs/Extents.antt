-- A reader finds the extent of a map in the pieces that state it.
use Rattle.std.proofs.Common.{◌≡◌, ◌++◌, ℕ, ℤ, Bool, true, false, if◌then◌else◌, List, [], ◌∷◌, codes, refl, ◌∙◌, ap, sym}
use Rattle.std.proofs.lemmas.List.{append_assoc}
use Rattle.std.proofs.lemmas.List.Folds.{list_any-append}
use Rattle.std.specs.List.{list_any}
use Rattle.crsaxes.specs.Metres.{metres_down, metres_up}
use Rattle.geom.specs.World.{Area}
use Rattle.geom.specs.Written.{written}
use Rattle.capabilities.specs.declared.markup.Markup.TheVariants as part
use Rattle.capabilities.specs.Boxes.{is_edge, parts_behind}
use Rattle.capabilities.specs.Element.{opening, ending, enclosed, attribute}
use Rattle.capabilities.specs.Markup.{markup}
use Rattle.capabilities.specs.World.{geographic_box, corner, bounding_box, boxes, metre_box}
use Rattle.capabilities.proofs.Numbers.{or-from, edge-elsewhere, written-lacks, written-plain}
use Rattle.capabilities.proofs.Sought.{Sought, Titles, Names, West, East, South, North, Boxes, beginning, reading_of, Finds, joined, lacks, lacks-is, without, none, inside-lacks, plain-lacks, plain, before-at}

-- an element on no line of its own, as a tag, a content, and what begins with the next tag
pub enclosed-parts : (name content rest : List ℕ) → enclosed name content ++ rest ≡ opening name ++ (content ++ (ending name ++ rest))
unfolding enclosed
enclosed-parts name content rest =
    append_assoc (opening name) (content ++ ending name) rest ∙ ap (λ (x : List ℕ). opening name ++ x) (append_assoc content (ending name) rest)

pub west-text : (z : ℤ) → Finds West (enclosed (codes "westBoundLongitude") (written z)) (written z ∷ [])
unfolding opening ending
west-text z = record {
  is = λ rest.
      let tail : List ℕ = codes "/westBoundLongitude>" ++ rest in
      ap (parts_behind (beginning West)) (enclosed-parts (codes "westBoundLongitude") (written z) rest)
      ∙ rw (before-at is_edge (written z) tail 60 (written-lacks is_edge edge-elsewhere z) refl, lacks-is West (written z) (60 ∷ tail) (plain-lacks West (written z) (written-plain z))) refl;
}

pub east-text : (z : ℤ) → Finds East (enclosed (codes "eastBoundLongitude") (written z)) (written z ∷ [])
unfolding opening ending
east-text z = record {
  is = λ rest.
      let tail : List ℕ = codes "/eastBoundLongitude>" ++ rest in
      ap (parts_behind (beginning East)) (enclosed-parts (codes "eastBoundLongitude") (written z) rest)
      ∙ rw (before-at is_edge (written z) tail 60 (written-lacks is_edge edge-elsewhere z) refl, lacks-is East (written z) (60 ∷ tail) (plain-lacks East (written z) (written-plain z))) refl;
}

pub south-text : (z : ℤ) → Finds South (enclosed (codes "southBoundLatitude") (written z)) (written z ∷ [])
unfolding opening ending
south-text z = record {
  is = λ rest.
      let tail : List ℕ = codes "/southBoundLatitude>" ++ rest in
      ap (parts_behind (beginning South)) (enclosed-parts (codes "southBoundLatitude") (written z) rest)
      ∙ rw (before-at is_edge (written z) tail 60 (written-lacks is_edge edge-elsewhere z) refl, lacks-is South (written z) (60 ∷ tail) (plain-lacks South (written z) (written-plain z))) refl;
}

pub north-text : (z : ℤ) → Finds North (enclosed (codes "northBoundLatitude") (written z)) (written z ∷ [])
unfolding opening ending
north-text z = record {
  is = λ rest.
      let tail : List ℕ = codes "/northBoundLatitude>" ++ rest in
      ap (parts_behind (beginning North)) (enclosed-parts (codes "northBoundLatitude") (written z) rest)
      ∙ rw (before-at is_edge (written z) tail 60 (written-lacks is_edge edge-elsewhere z) refl, lacks-is North (written z) (60 ∷ tail) (plain-lacks North (written z) (written-plain z))) refl;
}

-- nothing in a side that the reader doesn't seek
pub side-none : (s : Sought) (name : List ℕ) (z : ℤ) → lacks (60 ∷ beginning s) (opening name) ≡ true → lacks (60 ∷ beginning s) (ending name) ≡ true → Finds s (enclosed name (written z)) []
unfolding enclosed
side-none s name z opens ends = joined s _ _ [] [] (without s _ opens) (joined s _ _ [] [] (plain s (written z) (written-plain z)) (without s _ ends))

-- the west
abbrev pub west_of : Sought → ℤ → List (List ℕ)
west_of Titles z = []
west_of Names z = []
west_of West z = written z ∷ []
west_of East z = []
west_of South z = []
west_of North z = []
west_of Boxes z = []

pub west-found : (s : Sought) (z : ℤ) → Finds s (enclosed (codes "westBoundLongitude") (written z)) (west_of s z)
unfolding opening ending
west-found Titles z = side-none Titles (codes "westBoundLongitude") z refl refl
west-found Names z = side-none Names (codes "westBoundLongitude") z refl refl
west-found West z = west-text z
west-found East z = side-none East (codes "westBoundLongitude") z refl refl
west-found South z = side-none South (codes "westBoundLongitude") z refl refl
west-found North z = side-none North (codes "westBoundLongitude") z refl refl
west-found Boxes z = side-none Boxes (codes "westBoundLongitude") z refl refl

-- the east
abbrev pub east_of : Sought → ℤ → List (List ℕ)
east_of Titles z = []
east_of Names z = []
east_of West z = []
east_of East z = written z ∷ []
east_of South z = []
east_of North z = []
east_of Boxes z = []

pub east-found : (s : Sought) (z : ℤ) → Finds s (enclosed (codes "eastBoundLongitude") (written z)) (east_of s z)
unfolding opening ending
east-found Titles z = side-none Titles (codes "eastBoundLongitude") z refl refl
east-found Names z = side-none Names (codes "eastBoundLongitude") z refl refl
east-found West z = side-none West (codes "eastBoundLongitude") z refl refl
east-found East z = east-text z
east-found South z = side-none South (codes "eastBoundLongitude") z refl refl
east-found North z = side-none North (codes "eastBoundLongitude") z refl refl
east-found Boxes z = side-none Boxes (codes "eastBoundLongitude") z refl refl

-- the south
abbrev pub south_of : Sought → ℤ → List (List ℕ)
south_of Titles z = []
south_of Names z = []
south_of West z = []
south_of East z = []
south_of South z = written z ∷ []
south_of North z = []
south_of Boxes z = []

pub south-found : (s : Sought) (z : ℤ) → Finds s (enclosed (codes "southBoundLatitude") (written z)) (south_of s z)
unfolding opening ending
south-found Titles z = side-none Titles (codes "southBoundLatitude") z refl refl
south-found Names z = side-none Names (codes "southBoundLatitude") z refl refl
south-found West z = side-none West (codes "southBoundLatitude") z refl refl
south-found East z = side-none East (codes "southBoundLatitude") z refl refl
south-found South z = south-text z
south-found North z = side-none North (codes "southBoundLatitude") z refl refl
south-found Boxes z = side-none Boxes (codes "southBoundLatitude") z refl refl

-- the north
abbrev pub north_of : Sought → ℤ → List (List ℕ)
north_of Titles z = []
north_of Names z = []
north_of West z = []
north_of East z = []
north_of South z = []
north_of North z = written z ∷ []
north_of Boxes z = []

pub north-found : (s : Sought) (z : ℤ) → Finds s (enclosed (codes "northBoundLatitude") (written z)) (north_of s z)
unfolding opening ending
north-found Titles z = side-none Titles (codes "northBoundLatitude") z refl refl
north-found Names z = side-none Names (codes "northBoundLatitude") z refl refl
north-found West z = side-none West (codes "northBoundLatitude") z refl refl
north-found East z = side-none East (codes "northBoundLatitude") z refl refl
north-found South z = side-none South (codes "northBoundLatitude") z refl refl
north-found North z = north-text z
north-found Boxes z = side-none Boxes (codes "northBoundLatitude") z refl refl

-- the four sides
abbrev pub sides_of : Sought → Area → List (List ℕ)
sides_of s area = west_of s area.minx ++ (east_of s area.maxx ++ (south_of s area.miny ++ (north_of s area.maxy ++ [])))

pub geographic-found : (s : Sought) (area : Area) → Finds s (geographic_box area) (sides_of s area)
unfolding geographic_box markup
geographic-found s area =
    joined s _ _ [] _ (none (markup part.Geographic) refl s)
    (joined s _ _ _ _ (west-found s area.minx)
    (joined s _ _ _ _ (east-found s area.maxx)
    (joined s _ _ _ _ (south-found s area.miny)
    (joined s _ _ _ [] (north-found s area.maxy) (none (markup part.GeographicEnd) refl s)))))

-- the attributes of a box, up to the end of its tag
abbrev pub tag_of : List ℕ → ℤ → ℤ → ℤ → ℤ → List ℕ
tag_of crs a b c d = attribute (codes "CRS") crs ++ (corner (codes "minx") a (codes "miny") b ++ (corner (codes "maxx") c (codes "maxy") d ++ codes "/"))

pub box-parts : (crs : List ℕ) (a b c d : ℤ) (rest : List ℕ) → bounding_box crs a b c d ++ rest ≡ markup part.BoundingBox ++ (tag_of crs a b c d ++ (codes ">\n" ++ rest))
unfolding bounding_box
box-parts crs a b c d rest =
    let name : List ℕ = markup part.BoundingBox in
    let system : List ℕ = attribute (codes "CRS") crs in
    let low : List ℕ = corner (codes "minx") a (codes "miny") b in
    let high : List ℕ = corner (codes "maxx") c (codes "maxy") d in
    append_assoc name (system ++ (low ++ (high ++ codes "/>\n"))) rest
    ∙ ap (λ (x : List ℕ). name ++ x) (
    append_assoc system (low ++ (high ++ codes "/>\n")) rest
    ∙ ap (λ (x : List ℕ). system ++ x) (append_assoc low (high ++ codes "/>\n") rest ∙ ap (λ (x : List ℕ). low ++ x) (append_assoc high (codes "/>\n") rest))
    ∙ sym (append_assoc system (low ++ (high ++ codes "/")) (codes ">\n" ++ rest)
    ∙ ap (λ (x : List ℕ). system ++ x) (append_assoc low (high ++ codes "/") (codes ">\n" ++ rest) ∙ ap (λ (x : List ℕ). low ++ x) (append_assoc high (codes "/") (codes ">\n" ++ rest)))))

-- no tag begins or ends among attributes
pub attribute-inside : (name value : List ℕ) → list_any is_edge name ≡ false → list_any is_edge value ≡ false → list_any is_edge (attribute name value) ≡ false
unfolding attribute
attribute-inside name value h k =
    list_any-append is_edge name (codes "=\"" ++ (value ++ codes "\""))
    ∙ or-from _ _ h (list_any-append is_edge value (codes "\"") ∙ or-from _ _ k refl)

pub number-inside : (name : List ℕ) (z : ℤ) → list_any is_edge name ≡ false → list_any is_edge (attribute name (written z)) ≡ false
number-inside name z h = attribute-inside name (written z) h (written-lacks is_edge edge-elsewhere z)

pub corner-inside : (first second : List ℕ) (x y : ℤ) → list_any is_edge first ≡ false → list_any is_edge second ≡ false → list_any is_edge (corner first x second y) ≡ false
unfolding corner
corner-inside first second x y h k =
    list_any-append is_edge (attribute first (written x)) (attribute second (written y)) ∙ or-from _ _ (number-inside first x h) (number-inside second y k)

pub tag-inside : (crs : List ℕ) (a b c d : ℤ) → list_any is_edge crs ≡ false → list_any is_edge (tag_of crs a b c d) ≡ false
tag-inside crs a b c d h =
    list_any-append is_edge (attribute (codes "CRS") crs) _
    ∙ or-from _ _ (attribute-inside (codes "CRS") crs refl h) (list_any-append is_edge (corner (codes "minx") a (codes "miny") b) _
    ∙ or-from _ _ (corner-inside (codes "minx") (codes "miny") a b refl refl) (list_any-append is_edge (corner (codes "maxx") c (codes "maxy") d) (codes "/")
    ∙ or-from _ _ (corner-inside (codes "maxx") (codes "maxy") c d refl refl) refl))

-- a box
abbrev pub boxes_of : Sought → List ℕ → List (List ℕ)
boxes_of Titles t = []
boxes_of Names t = []
boxes_of West t = []
boxes_of East t = []
boxes_of South t = []
boxes_of North t = []
boxes_of Boxes t = t ∷ []

pub box-text : (crs : List ℕ) (a b c d : ℤ) → list_any is_edge crs ≡ false → Finds Boxes (bounding_box crs a b c d) (tag_of crs a b c d ∷ [])
unfolding markup
box-text crs a b c d h = record {
  is = λ rest.
      let tag : List ℕ = tag_of crs a b c d in
      let inside : list_any is_edge tag ≡ false = tag-inside crs a b c d h in
      ap (parts_behind (beginning Boxes)) (box-parts crs a b c d rest)
      ∙ rw (before-at is_edge tag (codes "\n" ++ rest) 62 inside refl, lacks-is Boxes tag (codes ">\n" ++ rest) (inside-lacks Boxes tag inside)) refl;
}

pub box-none : (s : Sought) (crs : List ℕ) (a b c d : ℤ) → list_any is_edge crs ≡ false → lacks (60 ∷ beginning s) (markup part.BoundingBox) ≡ true → Finds s (bounding_box crs a b c d) []
box-none s crs a b c d h begins = record {
  is = λ rest. ap (reading_of s) (box-parts crs a b c d rest)
      ∙ lacks-is s (markup part.BoundingBox) _ begins
      ∙ lacks-is s (tag_of crs a b c d) _ (inside-lacks s (tag_of crs a b c d) (tag-inside crs a b c d h))
      ∙ lacks-is s (codes ">\n") rest refl;
}

pub box-found : (s : Sought) (crs : List ℕ) (a b c d : ℤ) → list_any is_edge crs ≡ false → Finds s (bounding_box crs a b c d) (boxes_of s (tag_of crs a b c d))
unfolding markup
box-found Titles crs a b c d h = box-none Titles crs a b c d h refl
box-found Names crs a b c d h = box-none Names crs a b c d h refl
box-found West crs a b c d h = box-none West crs a b c d h refl
box-found East crs a b c d h = box-none East crs a b c d h refl
box-found South crs a b c d h = box-none South crs a b c d h refl
box-found North crs a b c d h = box-none North crs a b c d h refl
box-found Boxes crs a b c d h = box-text crs a b c d h

-- both
abbrev pub tag84 : Area → List ℕ
tag84 area = tag_of (codes "CRS:84") area.minx area.miny area.maxx area.maxy

abbrev pub tag4326 : Area → List ℕ
tag4326 area = tag_of (codes "EPSG:4326") area.miny area.minx area.maxy area.maxx

abbrev pub extent_of : Sought → Area → List (List ℕ)
extent_of s area = sides_of s area ++ (boxes_of s (tag84 area) ++ boxes_of s (tag4326 area))

pub boxes-found : (s : Sought) (area : Area) → Finds s (boxes area) (extent_of s area)
unfolding boxes
boxes-found s area =
    joined s _ _ _ _ (geographic-found s area)
    (joined s _ _ _ _ (box-found s (codes "CRS:84") _ _ _ _ refl) (box-found s (codes "EPSG:4326") _ _ _ _ refl))

-- the box in metres, if there is one
abbrev pub tag3857 : Area → List ℕ
tag3857 area = tag_of (codes "EPSG:3857") (metres_down area.minx) (metres_down area.miny) (metres_up area.maxx) (metres_up area.maxy)

abbrev pub metres_of : Sought → Bool → Area → List (List ℕ)
metres_of Titles shown area = []
metres_of Names shown area = []
metres_of West shown area = []
metres_of East shown area = []
metres_of South shown area = []
metres_of North shown area = []
metres_of Boxes shown area = if shown then tag3857 area ∷ [] else []

metre-found : (s : Sought) (area : Area) → Finds s (metre_box area) (boxes_of s (tag3857 area))
unfolding metre_box
metre-found s area = box-found s (codes "EPSG:3857") _ _ _ _ refl

-- nothing in what may be left out, where there is nothing in it
shown-none : (s : Sought) (shown : Bool) (xs : List ℕ) → Finds s xs [] → Finds s (if shown then xs else []) []
shown-none s true xs is = is
shown-none s false xs is = record { is = λ rest. refl }

pub metres-found : (s : Sought) (shown : Bool) (area : Area) → Finds s (if shown then metre_box area else []) (metres_of s shown area)
metres-found Titles shown area = shown-none Titles shown (metre_box area) (metre-found Titles area)
metres-found Names shown area = shown-none Names shown (metre_box area) (metre-found Names area)
metres-found West shown area = shown-none West shown (metre_box area) (metre-found West area)
metres-found East shown area = shown-none East shown (metre_box area) (metre-found East area)
metres-found South shown area = shown-none South shown (metre_box area) (metre-found South area)
metres-found North shown area = shown-none North shown (metre_box area) (metre-found North area)
metres-found Boxes true area = metre-found Boxes area
metres-found Boxes false area = record { is = λ rest. refl }
