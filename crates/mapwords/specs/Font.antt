-- Fonts, and the names that a map gives them (docs/MAPFILE.md, "Fonts").
use Rattle.std.specs.Prelude.{ℕ, eqb, Bool, true, false, ◌==◌, ◌||◌, ◌&&◌, nat_lt, if◌then◌else◌, List, length, drop, codes, Option, None, Some, option_and_then}
use Rattle.std.specs.Char.{is_ascii_alphanumeric}
use Rattle.std.specs.List.{list_all, starts_with}
use Rattle.mapdefs.specs.Name.{is_same_name}
use Rattle.mapwords.specs.declared.font.FontKey.{FontKey}
use Rattle.mapwords.specs.declared.font.FontKey.TheVariants.{Default, Named}

-- two keys are of one font: both of that without a name, or of fonts of one name
abbrev pub is_same_font : FontKey → FontKey → Bool
is_same_font Default Default = true
is_same_font (Named name) (Named other) = is_same_name name other
is_same_font _ _ = false

-- a byte may be in a name: a letter, a digit, a hyphen or an underscore
abbrev pub is_font_byte : ℕ → Bool
is_font_byte byte = is_ascii_alphanumeric byte || (byte == 45 || byte == 95)

-- a name has such bytes alone, and one at least
abbrev pub is_font_name : List ℕ → Bool
is_font_name name = nat_lt 0 (length name) && list_all is_font_byte name

-- what a key of CONFIG has after LABELFONT and a space, if it begins so
abbrev pub after_labelfont : List ℕ → Option (List ℕ)
after_labelfont key = if starts_with eqb key (codes "LABELFONT ") then Some (drop (length (codes "LABELFONT ")) key) else None

-- a text as a name, if it is one
abbrev pub font_name : List ℕ → Option (List ℕ)
font_name text = if is_font_name text then Some text else None

-- the name of the font that a key of CONFIG is for, if it has one
abbrev pub font_name_of : List ℕ → Option (List ℕ)
font_name_of key = option_and_then font_name (after_labelfont key)
