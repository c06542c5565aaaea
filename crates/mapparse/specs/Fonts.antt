-- The fonts of a map's labels (docs/MAPFILE.md, "Fonts"; Glyph Bitmap Distribution Format 2.1).
use Rattle.std.specs.Prelude.{◌≡◌, ℕ, Bool, false, not, ◌==◌, nat_lt, if◌then◌else◌, List, [], ◌∷◌, map, filter, Option, is_some, option_and_then, Result, Ok, Err}
use Rattle.std.specs.List.{filter_map, list_any, position}
use Rattle.std.specs.Option.{option_map_or, option_or}
use Rattle.bdffont.specs.File.{file_within}
use Rattle.bdffont.specs.declared.fault.FontError.{FontError}
use Rattle.bdffont.specs.declared.fault.FontError.TheVariants.{Fault as FaultOf, NoMemory}
use Rattle.bdffont.specs.declared.fault.FontFault.{FontFault}
use Rattle.mapdefs.specs.declared.font.FontFields.{FontFields}
use Rattle.mapdefs.specs.declared.font.Glyph.{Glyph}
use Rattle.mapdefs.specs.declared.limits.TheConstants.{MAX_FINE_GLYPH_SIDE, MAX_GLYPH_SIDE}
use Rattle.mapwords.specs.declared.fault.Fault.{Fault}
use Rattle.mapdefs.specs.Outcome.{and_then}
use Rattle.mapwords.specs.declared.font.FontKey.{FontKey}
use Rattle.mapwords.specs.declared.font.FontKey.TheVariants as font
use Rattle.mapwords.specs.declared.named.Named.{Named}
use Rattle.mapwords.specs.declared.value.Value.{Value}
use Rattle.mapwords.specs.Font.{is_same_font}
use Rattle.maptree.specs.Smoothing.{factor_in}
use Rattle.maptree.specs.declared.tree.MapTree.{MapTree}
use Rattle.maptree.specs.declared.tree.UsedFile.{UsedFile}
use Rattle.mapparse.specs.declared.files.FileBytes.{FileBytes}
use Rattle.mapparse.specs.Files.{bytes_in, read_from}

-- a glyph among others by rising encodings, in place of one of its own encoding
abbrev pub with_glyph : Glyph → List Glyph → List Glyph
with_glyph glyph [] = glyph ∷ []
with_glyph glyph (other ∷ others) =
    if nat_lt glyph.encoding other.encoding then glyph ∷ other ∷ others
    else if glyph.encoding == other.encoding then glyph ∷ others
    else other ∷ with_glyph glyph others

-- the glyphs of a file by rising encodings, of each the first
abbrev pub by_encoding : List Glyph → List Glyph
by_encoding [] = []
by_encoding (glyph ∷ glyphs) = with_glyph glyph (by_encoding glyphs)

-- the font of what a file says
abbrev pub font_by : Result FontFields FontFault → Result FontFields FontFault
font_by (Ok file) = Ok (record file { glyphs = by_encoding file.glyphs })
font_by (Err fault) = Err fault

-- the font that the bytes of a file are, with boxes of sides and offsets of at most so many pixels
abbrev pub font_of : ℕ → List ℕ → Result FontFields FontFault
font_of most bytes = font_by (file_within most bytes)

-- so many pixels they may be in a map: those of a smoothed one are of its fine pictures
abbrev pub most_side : List Value → ℕ
most_side given = if factor_in given == 1 then MAX_GLYPH_SIDE else MAX_FINE_GLYPH_SIDE

-- the font in a file
abbrev pub font_in : ℕ → List FileBytes → Named → Result FontFields Fault
font_in most files file = read_from (font_of most) file.line (bytes_in file.text files)

-- a file is used as a font
abbrev pub is_font : UsedFile → Bool
is_font used = is_some used.font

-- the files of fonts, in the order of their uses
abbrev pub font_files : List UsedFile → List Named
font_files files = map (λ (used : UsedFile). used.file) (filter is_font files)

-- the fonts in files, or the fault of the first that has none
abbrev pub fonts_in : ℕ → List FileBytes → List Named → Result (List FontFields) Fault
fonts_in most files [] = Ok []
fonts_in most files (file ∷ others) =
    and_then (font_in most files file) (λ font. and_then (fonts_in most files others) (λ fonts. Ok (font ∷ fonts)))

-- the fonts of a map
abbrev pub fonts_of : List FileBytes → MapTree → Result (List FontFields) Fault
fonts_of files tree = fonts_in (most_side tree.values) files (font_files tree.files)

-- their keys
abbrev pub font_keys : List UsedFile → List FontKey
font_keys files = filter_map (λ (used : UsedFile). used.font) files

-- the index of the font of a label among these: of the one that it names, if the map has it, else of that of labels that name none
abbrev pub font_index : List FontKey → Option (List ℕ) → Option ℕ
font_index keys named =
    option_or (option_and_then (λ name. position (is_same_font (font.Named name)) keys) named) (position (is_same_font font.Default) keys)

-- a label names a font that the map doesn't have
abbrev pub is_unknown : List FontKey → Option (List ℕ) → Bool
is_unknown keys named = option_map_or (λ name. not (list_any (is_same_font (font.Named name)) keys)) named false

-- the error of a font: its fault, or that memory was refused
abbrev pub IsFontErrorOf : Result FontFields FontFault → FontError → Type 0
IsFontErrorOf font (FaultOf fault) = font ≡ Err fault
IsFontErrorOf font NoMemory = Unit {0}
