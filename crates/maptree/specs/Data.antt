-- The tables of layers, and the files that a MAP uses (docs/MAPFILE.md, "Tables" and "Files").
use Rattle.std.specs.Prelude.{ℕ, Bool, true, false, not, nat_le, if◌then◌else◌, List, [], ◌∷◌, ◌++◌, filter, Option, None, Some}
use Rattle.std.specs.List.{count_by, list_any}
use Rattle.std.specs.Option.{option_map_or}
use Rattle.mapdefs.specs.declared.layer.Geometry.{Geometry}
use Rattle.mapdefs.specs.declared.layer.Geometry.TheVariants.{Point}
use Rattle.mapwords.specs.declared.fault.Fault.{Fault}
use Rattle.mapwords.specs.declared.fault.ParseKind.TheVariants.{WrongValue}
use Rattle.mapwords.specs.declared.font.FontKey.{FontKey}
use Rattle.mapwords.specs.declared.font.FontKey.TheVariants as font
use Rattle.mapwords.specs.declared.named.Named.{Named}
use Rattle.mapwords.specs.declared.role.Block.{Block}
use Rattle.mapwords.specs.declared.role.Block.TheVariants as block
use Rattle.mapwords.specs.declared.value.Value.{Value}
use Rattle.mapwords.specs.declared.value.Value.TheVariants as value
use Rattle.mapwords.specs.Font.{is_same_font}
use Rattle.mapdefs.specs.declared.limits.TheConstants.{MAX_FONT_NAMES}
use Rattle.maptree.specs.declared.tree.UsedFile.{UsedFile}

-- a table has points, so a layer of another geometry may have none; the fault is at the line of the file's name
abbrev pub table_fault : Geometry → Option Named → Option Fault
table_fault Point table = None
table_fault geometry None = None
table_fault geometry (Some table) = Some (record { line = table.line; kind = WrongValue })

-- the files that are used, with that of a symbol or of a layer after them, if it has one
abbrev pub with_named_file : Option Named → List UsedFile → List UsedFile
with_named_file None files = files
with_named_file (Some file) files = files ++ record { file = file; font = None } ∷ []

-- a file is that of a font
abbrev pub is_file_of : FontKey → UsedFile → Bool
is_file_of key used = option_map_or (is_same_font key) used.font false

-- the files that are used, with that of a font after them, in place of an earlier one of the same font
abbrev pub with_font : FontKey → Named → List UsedFile → List UsedFile
with_font key file files = filter (λ used. not (is_file_of key used)) files ++ record { file = file; font = Some key } ∷ []

-- a value of a MAP may name the file of a font, which is used from there on
abbrev pub with_font_of : Value → List UsedFile → List UsedFile
with_font_of (value.Font key file) files = with_font key file files
with_font_of _ files = files

-- a font has a name
abbrev pub has_name : FontKey → Bool
has_name font.Default = false
has_name (font.Named name) = true

-- a file is that of a font with a name
abbrev pub is_of_named : UsedFile → Bool
is_of_named used = option_map_or has_name used.font false

-- a name that no font has yet is one too many where as many have names as a map may have
abbrev pub is_one_too_many : List UsedFile → List ℕ → Bool
is_one_too_many files name =
    if list_any (is_file_of (font.Named name)) files then false else nat_le MAX_FONT_NAMES (count_by is_of_named files)

-- only a MAP has fonts, and it has no room for such a name
abbrev pub lacks_room : Block → List UsedFile → List ℕ → Bool
lacks_room block.Map files name = is_one_too_many files name
lacks_room _ files name = false
