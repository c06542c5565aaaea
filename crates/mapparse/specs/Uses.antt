-- The files that a mapfile uses, and which of their faults is reported (docs/MAPFILE.md, "Files").
use Rattle.std.specs.Prelude.{◌≡◌, ℕ, Bool, true, false, not, ◌&&◌, ◌||◌, ◌==◌, if◌then◌else◌, IfSome, slice_get, List, [], ◌∷◌, ◌++◌, map, Option, None, Some}
use Rattle.std.specs.List.{list_any}
use Rattle.std.specs.Result.{is_err}
use Rattle.mapdefs.specs.Name.{is_same_name}
use Rattle.mapwords.specs.declared.fault.Fault.{Fault}
use Rattle.mapwords.specs.declared.fault.ParseKind.TheVariants.{MissingFile, BadFile}
use Rattle.mapwords.specs.declared.keyword.Keyword.{Keyword}
use Rattle.mapwords.specs.declared.keyword.Keyword.TheVariants.{Config, Data, Image}
use Rattle.maptree.specs.declared.tree.LayerTree.{LayerTree}
use Rattle.maptree.specs.declared.tree.MapTree.{MapTree}
use Rattle.mapwords.specs.declared.named.Named.{Named}
use Rattle.maptree.specs.declared.tree.SymbolTree.{SymbolTree}
use Rattle.maptree.specs.declared.tree.UsedFile.{UsedFile}
use Rattle.maptree.specs.Symbol.{first_fault}
use Rattle.mapwords.specs.declared.value.Value.{Value}
use Rattle.symbols.specs.Format.{pixmap_of}
use Rattle.mapparse.specs.declared.fault.FileCause.{FileCause}
use Rattle.mapparse.specs.declared.fault.FileCause.TheVariants.{Missing, NoFont, NoPixmap, NoTable}
use Rattle.mapparse.specs.declared.fault.FileFault.{FileFault}
use Rattle.mapparse.specs.declared.files.FileBytes.{FileBytes}
use Rattle.mapparse.specs.Files.{bytes_in}
use Rattle.mapparse.specs.Fonts.{font_of, is_font, most_side}
use Rattle.mapparse.specs.Tables.{table_for}

-- one of the files has this name
abbrev pub is_among : List Named → List ℕ → Bool
is_among files name = list_any (λ (file : Named). is_same_name file.text name) files

-- one more use of a file: only the first of its name is kept
abbrev pub with_use : List Named → Named → List Named
with_use firsts file = if is_among firsts file.text then firsts else firsts ++ file ∷ []

-- the first uses so far, with those of further files
abbrev pub uses_after : List Named → List Named → List Named
uses_after firsts [] = firsts
uses_after firsts (file ∷ files) = uses_after (with_use firsts file) files

-- the first use of each file, in their order
abbrev pub first_uses : MapTree → List Named
first_uses tree = uses_after [] (map (λ (used : UsedFile). used.file) tree.files)

-- the names of the files that a mapfile uses, each once, in the order of their first use
abbrev pub uses_of : MapTree → List (List ℕ)
uses_of tree = map (λ (file : Named). file.text) (first_uses tree)

-- a file is named, and has this name
abbrev pub is_named : List ℕ → Option Named → Bool
is_named name None = false
is_named name (Some file) = is_same_name file.text name

-- a symbol has the file of this name as its image, but its bytes are no pixmap
abbrev pub lacks_pixmap : List ℕ → List ℕ → SymbolTree → Bool
lacks_pixmap name bytes symbol = is_named name symbol.image && is_err (pixmap_of bytes)

-- a layer has its table in the file of this name, but its bytes are no table for it
abbrev pub lacks_table : List ℕ → List ℕ → LayerTree → Bool
lacks_table name bytes layer = is_named name layer.table && is_err (table_for layer bytes)

-- the file of this name is used as a font, but its bytes are no font of a map with these values
abbrev pub lacks_font : List Value → List ℕ → List ℕ → UsedFile → Bool
lacks_font given name bytes used = (is_font used && is_same_name used.file.text name) && is_err (font_of (most_side given) bytes)

-- so it is in a map
abbrev pub lacks_some_font : MapTree → List ℕ → List ℕ → Bool
lacks_some_font tree name bytes = list_any (lacks_font tree.values name bytes) tree.files

-- the bytes of the file of this name don't fit some use of it
abbrev pub is_bad : MapTree → List ℕ → List ℕ → Bool
is_bad tree name bytes =
    list_any (lacks_pixmap name bytes) tree.symbols || list_any (lacks_table name bytes) tree.layers || lacks_some_font tree name bytes

-- the use that the bytes don't fit, by the reader that refuses them: of a symbol's image, else of a layer's table, else of a font
abbrev pub refuses : MapTree → List ℕ → List ℕ → FileCause → Bool
refuses tree name bytes Missing = false
refuses tree name bytes (NoPixmap fault) = list_any (lacks_pixmap name bytes) tree.symbols
refuses tree name bytes (NoTable fault) = not (list_any (lacks_pixmap name bytes) tree.symbols) && list_any (lacks_table name bytes) tree.layers
refuses tree name bytes (NoFont fault) =
    not (list_any (lacks_pixmap name bytes) tree.symbols) && (not (list_any (lacks_table name bytes) tree.layers) && lacks_some_font tree name bytes)

-- two names of files are one, on one line
abbrev pub is_same_use : Named → Named → Bool
is_same_use a b = a.line == b.line && is_same_name a.text b.text

-- a file is named, and it is there
abbrev pub is_used_there : Named → Option Named → Bool
is_used_there there None = false
is_used_there there (Some file) = is_same_use file there

-- a font is in a file, and that is named there
abbrev pub is_font_there : Named → UsedFile → Bool
is_font_there there used = is_font used && is_same_use used.file there

-- the keyword that names a file there
abbrev pub keyword_of : MapTree → Named → Keyword
keyword_of tree there =
    if list_any (λ (symbol : SymbolTree). is_used_there there symbol.image) tree.symbols then Image
    else (if list_any (is_font_there there) tree.files then Config else Data)

-- the keyword of the use that a cause is about: of a missing file that of its first use
abbrev pub keyword_by : MapTree → Named → FileCause → Keyword
keyword_by tree first Missing = keyword_of tree first
keyword_by tree first (NoPixmap fault) = Image
keyword_by tree first (NoTable fault) = Data
keyword_by tree first (NoFont fault) = Config

-- what a fault says of the file: which of the used ones it is, the line of its first use, the keyword of the use that it doesn't fit, and why
pub record IsOfUse (files : List FileBytes) (tree : MapTree) (fault : FileFault) : Type 0 where
  pub first : Named
  pub is : slice_get (first_uses tree) fault.number ≡ Some first
  pub line : fault.line ≡ first.line
  pub keyword : fault.keyword ≡ keyword_by tree first fault.cause
  pub refused : IfSome (bytes_in first.text files) (λ bytes. refuses tree first.text bytes fault.cause ≡ true)

-- the fault of a file that is first used there, by its bytes
abbrev pub fault_by : MapTree → Named → Option (List ℕ) → Option Fault
fault_by tree first None = Some (record { line = first.line; kind = MissingFile })
fault_by tree first (Some bytes) = if is_bad tree first.text bytes then Some (record { line = first.line; kind = BadFile }) else None

-- the fault of a file, whichever of its uses has it, is at the line of its first use
abbrev pub file_fault : List FileBytes → MapTree → Named → Option Fault
file_fault files tree first = fault_by tree first (bytes_in first.text files)

-- the fault that is reported is that of the file which is used first
abbrev pub files_fault : List FileBytes → MapTree → Option Fault
files_fault files tree = first_fault (file_fault files tree) (first_uses tree)
