-- The tables of layers (docs/MAPFILE.md, "Tables").
use Rattle.std.specs.Prelude.{ℕ, ◌+◌, ◌-◌, ◌≤◌, List, [], ◌∷◌, length, codes, Option, None, Some, IfSome, unwrap_or, Result, Ok}
use Rattle.std.specs.List.{AllZip}
use Rattle.csvpoints.specs.Source.{records_of}
use Rattle.csvpoints.specs.Table.{table_of}
use Rattle.csvpoints.specs.declared.fault.CsvFault.{CsvFault}
use Rattle.csvpoints.specs.declared.table.TableFields.{TableFields}
use Rattle.mapdefs.specs.declared.feature.FeatureFields.{FeatureFields}
use Rattle.mapdefs.specs.declared.limits.TheConstants.{MAX_FEATURES}
use Rattle.mapwords.specs.declared.fault.Fault.{Fault}
use Rattle.mapdefs.specs.Outcome.{and_then}
use Rattle.maptree.specs.declared.tree.LayerTree.{LayerTree}
use Rattle.mapwords.specs.declared.named.Named.{Named}
use Rattle.mapwords.specs.declared.table.TextKeyword.TheVariants.{CsvX, CsvY}
use Rattle.mapwords.specs.declared.value.Value.{Value}
use Rattle.mapvalues.specs.Values.{last, words_in}
use Rattle.mapparse.specs.declared.files.FileBytes.{FileBytes}
use Rattle.mapparse.specs.Files.{bytes_in, read_from}

-- the column of longitudes in a layer's tables is x by default
abbrev pub column_x : List Value → List ℕ
column_x given = unwrap_or (last (words_in CsvX) given) (codes "x")

-- the column of latitudes is y by default
abbrev pub column_y : List Value → List ℕ
column_y given = unwrap_or (last (words_in CsvY) given) (codes "y")

-- how many rows a layer has room for, after the features that the mapfile gives it
abbrev pub room_in : LayerTree → ℕ
room_in layer = MAX_FEATURES - length layer.body.features

-- the table that the bytes of a file are for a layer
abbrev pub table_for : LayerTree → List ℕ → Result TableFields CsvFault
table_for layer bytes = table_of (column_x layer.body.values) (column_y layer.body.values) (room_in layer) (records_of bytes)

-- the table in a file
abbrev pub table_in : List FileBytes → LayerTree → Named → Result TableFields Fault
table_in files layer file = read_from (table_for layer) file.line (bytes_in file.text files)

-- the table in a file, if one is named
abbrev pub table_named : List FileBytes → LayerTree → Option Named → Result (Option TableFields) Fault
table_named files layer None = Ok None
table_named files layer (Some file) = and_then (table_in files layer file) (λ table. Ok (Some table))

-- the table of a layer, if it has one
abbrev pub table_given : List FileBytes → LayerTree → Result (Option TableFields) Fault
table_given files layer = table_named files layer layer.table

-- the tables of layers, or the fault of the first that has none
abbrev pub tables_of : List FileBytes → List LayerTree → Result (List (Option TableFields)) Fault
tables_of files [] = Ok []
tables_of files (layer ∷ layers) =
    and_then (table_given files layer) (λ table. and_then (tables_of files layers) (λ tables. Ok (table ∷ tables)))

-- the rows of a table, if there is one
abbrev pub rows_of : Option TableFields → List FeatureFields
rows_of None = []
rows_of (Some table) = table.features

-- a layer has room for the rows of its table, if it has one
abbrev pub HasRoom : LayerTree → Option TableFields → Type 0
HasRoom layer table = IfSome table (λ t. length layer.body.features + length t.features ≤ MAX_FEATURES)

-- each layer has a table, or none, and room for it
abbrev pub HaveRoom : List LayerTree → List (Option TableFields) → Type 0
HaveRoom layers tables = AllZip HasRoom layers tables
