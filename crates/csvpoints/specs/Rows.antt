-- The rows of a table as places and texts (docs/FILES.md, "CSV"): the account of the code.
use Rattle.std.specs.Prelude.{ℕ, List, [], ◌∷◌, ◌++◌, map, take, drop, get_or, Option, None}
use Rattle.std.specs.Option.{option_map_or}
use Rattle.geom.specs.World.{Place}
use Rattle.mapdefs.specs.declared.feature.FeatureFields.{FeatureFields}

-- the feature of one point, with these values
abbrev pub point_with : List (List ℕ) → Place → FeatureFields
point_with values place = record { parts = (place ∷ []) ∷ []; text = None; values = values }

-- the features of some places, each with so many of the texts, in order
abbrev pub rows_of : ℕ → List Place → List (List ℕ) → List FeatureFields
rows_of count [] texts = []
rows_of count (place ∷ places) texts = point_with (take count texts) place ∷ rows_of count places (drop count texts)

-- the value of a row in a column, or empty without one
abbrev pub value_in : List (List ℕ) → Option ℕ → List ℕ
value_in values column = option_map_or (λ (k : ℕ). get_or values k []) column []

-- a feature with its values in some columns
abbrev pub with_values_in : List (Option ℕ) → FeatureFields → FeatureFields
with_values_in columns feature = record feature { values = map (value_in feature.values) columns }

-- the values in some columns of the rows of some places, each with so many of the texts, in order
abbrev pub chosen_of : List (Option ℕ) → ℕ → List Place → List (List ℕ) → List (List ℕ)
chosen_of columns count [] texts = []
chosen_of columns count (place ∷ places) texts = map (value_in (take count texts)) columns ++ chosen_of columns count places (drop count texts)
