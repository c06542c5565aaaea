-- What a layer may hold (docs/MAPFILE.md, "Blocks and words", "Keys and values" and "Limits").
use Rattle.std.specs.Prelude.{◌≡◌, ℕ, ◌≤◌, length, All}
use Rattle.mapdefs.specs.declared.layer.LayerFields.{LayerFields}
use Rattle.mapdefs.specs.declared.feature.FeatureFields.{FeatureFields}
use Rattle.mapdefs.specs.declared.limits.TheConstants.{MAX_ITEMS, MAX_CLASSES, MAX_FEATURES, MAX_TOLERANCE}

-- the feature has that many values
abbrev pub HasValues : ℕ → FeatureFields → Type 0
HasValues count feature = length feature.values ≡ count

-- there are not too many items, classes and features, the tolerance is not too great, and each feature has a value per item
pub record IsLayerWithinLimits (l : LayerFields) : Type 0 where
  pub item_count : length l.items ≤ MAX_ITEMS
  pub class_count : length l.classes ≤ MAX_CLASSES
  pub feature_count : length l.features ≤ MAX_FEATURES
  pub tolerance : l.tolerance ≤ MAX_TOLERANCE
  pub values : ∥ All (HasValues (length l.items)) l.features ∥₁
