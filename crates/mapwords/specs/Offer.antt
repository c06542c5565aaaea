-- What a map offers beside what each map does (docs/MAPFILE.md, "What is offered").
use Rattle.std.specs.Prelude.{ℕ, Bool, false, ◌==◌, ◌||◌, if◌then◌else◌, List, [], codes, Option, None, Some}
use Rattle.std.specs.List.{list_all, list_any, slice_split}
use Rattle.mapdefs.specs.Name.{is_same_name}
use Rattle.mapwords.specs.declared.offer.Offer.{Offer}
use Rattle.mapwords.specs.declared.offer.Offer.TheVariants as offer

-- a byte is a space
abbrev pub is_space : ℕ → Bool
is_space byte = byte == 32

-- a text has this name, of those that stand apart by spaces
abbrev pub has_name : List ℕ → List ℕ → Bool
has_name name text = list_any (is_same_name name) (slice_split is_space text)

-- the name by which a value offers it
abbrev pub name_of : Offer → List ℕ
name_of offer.Png = codes "image/png"
name_of offer.Mercator = codes "EPSG:3857"

-- a name of the same kind is offered anyway
abbrev pub is_anyway : Offer → List ℕ → Bool
is_anyway offer.Png name = is_same_name name (codes "image/x-portable-pixmap") || is_same_name name (codes "image/x-portable-arbitrarymap")
is_anyway offer.Mercator name = false

-- its key takes a name; between two spaces there may be none
abbrev pub is_taken : Offer → List ℕ → Bool
is_taken o name = is_same_name name [] || (is_same_name name (name_of o) || is_anyway o name)

-- it is offered where a value of its key names it; a name that the key doesn't take makes the value wrong
abbrev pub offered : Offer → List ℕ → Option Bool
offered o text = if list_all (is_taken o) (slice_split is_space text) then Some (has_name (name_of o) text) else None
