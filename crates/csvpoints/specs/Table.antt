-- The table of the records of a text, or their first fault (docs/FILES.md, "CSV").
use Rattle.std.specs.Prelude.{◌≡◌, ℕ, ◌+◌, ◌≤◌, nat_lt, if◌then◌else◌, List, [], ◌∷◌, length, map, Result, Ok, Err, All}
use Rattle.std.specs.List.{enumerate_from}
use Rattle.geom.specs.World.{Place}
use Rattle.mapdefs.specs.LayerLimits.{HasValues}
use Rattle.mapdefs.specs.declared.feature.FeatureFields.{FeatureFields}
use Rattle.mapdefs.specs.declared.limits.TheConstants.{MAX_ITEMS}
use Rattle.csvpoints.specs.declared.fault.CsvFault.{CsvFault}
use Rattle.csvpoints.specs.declared.fault.CsvKind.TheVariants.{NoHeader, Limit}
use Rattle.csvpoints.specs.declared.header.Columns.{Columns}
use Rattle.csvpoints.specs.declared.table.TableFields.{TableFields}
use Rattle.csvpoints.specs.Fault.{at_row}
use Rattle.mapdefs.specs.Outcome.{and_then}
use Rattle.csvpoints.specs.Row.{columns_of, feature_of}

-- the header, its columns and the rows under it, or what is wrong with the header
abbrev pub header_of : List ℕ → List ℕ → List (List (List ℕ)) → Result (List (List ℕ) × Columns × List (List (List ℕ))) CsvFault
header_of x y [] = Err (record { row = 1; kind = NoHeader })
header_of x y (header ∷ rows) = at_row 1 (and_then (columns_of x y header) (λ columns. Ok (header, columns, rows)))

-- the feature or the fault of a row by its number, where the header is 1; at most as many rows as the limit come after the header
abbrev pub numbered_feature : Columns → ℕ → ℕ × List (List ℕ) → Result FeatureFields CsvFault
numbered_feature columns limit row = at_row row.0 (if nat_lt (limit + 1) row.0 then Err Limit else feature_of columns row.1)

-- all that was read, or the first fault
unfoldable pub all_of : List (Result FeatureFields CsvFault) → Result (List FeatureFields) CsvFault
all_of [] = Ok []
all_of (one ∷ others) = and_then one (λ feature. and_then (all_of others) (λ features. Ok (feature ∷ features)))

-- the features of the rows from a number on, or the first fault
abbrev pub features_of : Columns → ℕ → ℕ → List (List (List ℕ)) → Result (List FeatureFields) CsvFault
features_of columns limit number rows = all_of (map (numbered_feature columns limit) (enumerate_from number rows))

-- the table of some records, or the first fault: the first is the header, and the rows are numbered from 2
abbrev pub table_of : List ℕ → List ℕ → ℕ → List (List (List ℕ)) → Result TableFields CsvFault
table_of x y limit records = and_then (header_of x y records) (λ h.
    and_then (features_of h.1 limit 2 h.2) (λ features. Ok (record { columns = h.0; features = features })))

-- a feature of one point, with so many values
abbrev pub IsPointWith : ℕ → FeatureFields → Type 0
IsPointWith count f = ((p : Place) × (f.parts ≡ (p ∷ []) ∷ [])) × HasValues count f

-- what a table keeps
pub record IsTable (t : TableFields) : Type 0 where
  pub names : length t.columns ≤ MAX_ITEMS
  pub points : All (IsPointWith (length t.columns)) t.features

-- the law that a table has the names of its header, and a feature for each row
abbrev pub HasEachRow : Type 0
HasEachRow = (x y : List ℕ) (header : List (List ℕ)) (limit : ℕ) (rows : List (List (List ℕ))) (t : TableFields) →
    table_of x y limit (header ∷ rows) ≡ Ok t → (t.columns ≡ header) × (length t.features ≡ length rows)
