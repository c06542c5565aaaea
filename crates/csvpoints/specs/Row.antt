-- The columns of a header, and the feature of a row (docs/FILES.md, "CSV").
use Rattle.std.specs.Prelude.{ℕ, ◌==◌, ◌<◌, ◌≤◌, nat_lt, if◌then◌else◌, List, [], ◌∷◌, length, get_or, reverse, ℤ, Option, None, Some, Result, Ok, Err, position}
use Rattle.std.specs.List.{list_all}
use Rattle.std.specs.Str.{is_utf8}
use Rattle.geom.specs.Number.{coordinate_of}
use Rattle.mapdefs.specs.Name.{is_same_name}
use Rattle.mapdefs.specs.declared.feature.FeatureFields.{FeatureFields}
use Rattle.mapdefs.specs.declared.limits.TheConstants.{MAX_ITEMS}
use Rattle.csvpoints.specs.declared.fault.CsvKind.{CsvKind}
use Rattle.csvpoints.specs.declared.fault.CsvKind.TheVariants.{NoColumn, BadNumber, Uneven, NotText, Limit}
use Rattle.csvpoints.specs.declared.header.Columns.{Columns}
use Rattle.mapdefs.specs.Outcome.{and_then}

-- the fields of a record, if each is UTF-8
abbrev pub texts_of : List (List ℕ) → Result (List (List ℕ)) CsvKind
texts_of fields = if list_all is_utf8 fields then Ok fields else Err NotText

-- the index of the first column of a name
abbrev pub column_of : List ℕ → List (List ℕ) → Option ℕ
column_of name columns = position (λ (column : List ℕ). is_same_name column name) columns

-- so many columns, and the indices of those of the coordinates
abbrev pub both_columns : ℕ → Option ℕ → Option ℕ → Result Columns CsvKind
both_columns count (Some x) (Some y) = Ok (record { count = count; x = x; y = y })
both_columns count _ _ = Err NoColumn

-- the columns of some names, by the names of those of the coordinates, or what is wrong with them
abbrev pub columns_in : List ℕ → List ℕ → List (List ℕ) → Result Columns CsvKind
columns_in x y names =
    if nat_lt MAX_ITEMS (length names) then Err Limit
    else both_columns (length names) (column_of x names) (column_of y names)

-- the columns of a header, or what is wrong with it
abbrev pub columns_of : List ℕ → List ℕ → List (List ℕ) → Result Columns CsvKind
columns_of x y fields = and_then (texts_of fields) (columns_in x y)

-- a text without its leading spaces
unfoldable pub after_spaces : List ℕ → List ℕ
after_spaces [] = []
after_spaces (b ∷ bs) = if b == 32 then after_spaces bs else b ∷ bs

-- a text without the spaces at its end
unfoldable pub before_spaces : List ℕ → List ℕ
before_spaces text = reverse (after_spaces (reverse text))

-- the coordinate in a column; spaces at both ends of the text are no part of it
abbrev pub coordinate_in : List (List ℕ) → ℕ → Option ℤ
coordinate_in values column = coordinate_of (before_spaces (after_spaces (get_or values column [])))

-- the feature at a longitude and a latitude
abbrev pub point_at : List (List ℕ) → Option ℤ → Option ℤ → Result FeatureFields CsvKind
point_at values (Some x) (Some y) = Ok (record { parts = (record { x = x; y = y } ∷ []) ∷ []; text = None; values = values })
point_at values _ _ = Err BadNumber

-- the feature of a row under a header, or what is wrong with the row
abbrev pub feature_of : Columns → List (List ℕ) → Result FeatureFields CsvKind
feature_of columns fields =
    if length fields == columns.count
    then and_then (texts_of fields) (λ values. point_at values (coordinate_in values columns.x) (coordinate_in values columns.y))
    else Err Uneven

-- the columns of the coordinates are among the columns
pub record HasColumns (columns : Columns) : Type 0 where
  pub has_x : columns.x < columns.count
  pub has_y : columns.y < columns.count
  pub within : columns.count ≤ MAX_ITEMS
