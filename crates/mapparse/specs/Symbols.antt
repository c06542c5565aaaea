-- The symbols of a map (docs/MAPFILE.md, "Symbols" and "Files").
use Rattle.std.specs.Prelude.{ℕ, suc, if◌then◌else◌, List, [], ◌∷◌, Option, None, Some, option_map, option_and_then, Result, Ok}
use Rattle.std.specs.Option.{option_or}
use Rattle.mapdefs.specs.Name.{is_same_name}
use Rattle.mapdefs.specs.declared.symbol.PixmapFields.{PixmapFields}
use Rattle.mapdefs.specs.declared.symbol.Symbol.{Symbol}
use Rattle.mapdefs.specs.declared.symbol.SymbolShape.{SymbolShape}
use Rattle.mapdefs.specs.declared.symbol.SymbolShape.TheVariants as symbol
use Rattle.mapwords.specs.declared.fault.Fault.{Fault}
use Rattle.mapwords.specs.declared.named.Named.{Named}
use Rattle.maptree.specs.declared.tree.SymbolTree.{SymbolTree}
use Rattle.mapdefs.specs.Outcome.{and_then}
use Rattle.symbols.specs.Format.{pixmap_of}
use Rattle.mapparse.specs.declared.files.FileBytes.{FileBytes}
use Rattle.mapparse.specs.Files.{bytes_in, read_from}

-- the index of the last symbol of a name
abbrev pub last_named : List ℕ → List Symbol → Option ℕ
last_named name [] = None
last_named name (symbol ∷ after) =
    option_or (option_map suc (last_named name after)) (if is_same_name symbol.name name then Some 0 else None)

-- the index of the symbol that a style names
abbrev pub symbol_index : List Symbol → Option Named → Option ℕ
symbol_index symbols named = option_and_then (λ (n : Named). last_named n.text symbols) named

-- the pixmap of an image
abbrev pub pixmap_in : List FileBytes → Named → Result PixmapFields Fault
pixmap_in files image = read_from pixmap_of image.line (bytes_in image.text files)

-- what a symbol draws: the pixmap of its image, and without one a disc
abbrev pub shape_of : List FileBytes → Option Named → Result SymbolShape Fault
shape_of files None = Ok symbol.Disc
shape_of files (Some image) = and_then (pixmap_in files image) (λ pixmap. Ok (symbol.Pixmap pixmap))

-- what the symbol of a tree draws
abbrev pub shape_in : List FileBytes → SymbolTree → Result SymbolShape Fault
shape_in files tree = shape_of files tree.image

-- the symbols of a map with what they draw, or the fault of the first whose image is no pixmap
abbrev pub symbols_of : List FileBytes → List SymbolTree → Result (List Symbol) Fault
symbols_of files [] = Ok []
symbols_of files (tree ∷ trees) =
    and_then (shape_in files tree) (λ shape.
    and_then (symbols_of files trees) (λ symbols. Ok (record { name = tree.name.text; shape = shape } ∷ symbols)))
