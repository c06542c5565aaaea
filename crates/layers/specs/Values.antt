-- The columns of a layer's items in a table: the account of the code.
use Rattle.std.specs.Prelude.{ℕ, List, map, Option}
use Rattle.csvpoints.specs.Row.{column_of}

-- the columns of some items: for each the first one with its name, if there is one
abbrev pub columns_of : List (List ℕ) → List (List ℕ) → List (Option ℕ)
columns_of columns items = map (λ item. column_of item columns) items
