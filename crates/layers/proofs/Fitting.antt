-- Features that get the items of a layer by the columns that these have in the table.
use Rattle.std.proofs.Common.{◌≡◌, ℕ, List, [], ◌∷◌, map, refl, ap, ◌∙◌}
use Rattle.std.proofs.lemmas.Simd.{map-map}
use Rattle.csvpoints.specs.Row.{column_of}
use Rattle.csvpoints.specs.Rows.{value_in, with_values_in}
use Rattle.mapdefs.specs.declared.feature.FeatureFields.{FeatureFields}
use Rattle.layers.specs.Change.{fitted}
use Rattle.layers.specs.Values.{columns_of}

-- each feature has its values in the columns of the items
fits : (items columns : List (List ℕ)) (feature : FeatureFields) → with_values_in (columns_of columns items) feature ≡ fitted items columns feature
fits items columns feature =
    ap (λ (values : List (List ℕ)). record feature { values = values }) (map-map (value_in feature.values) (λ item. column_of item columns) items)

pub all-fit : (items columns : List (List ℕ)) (features : List FeatureFields) →
    map (with_values_in (columns_of columns items)) features ≡ map (fitted items columns) features
all-fit items columns [] = refl
all-fit items columns (feature ∷ features) =
    ap (λ (f : FeatureFields). f ∷ map (with_values_in (columns_of columns items)) features) (fits items columns feature)
    ∙ ap (λ (fs : List FeatureFields). fitted items columns feature ∷ fs) (all-fit items columns features)
