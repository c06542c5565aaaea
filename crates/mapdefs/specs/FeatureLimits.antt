-- How many vertices a feature has (docs/MAPFILE.md, "Limits").
use Rattle.std.specs.Prelude.{ℕ, ◌≤◌, length, sum_by}
use Rattle.mapdefs.specs.declared.feature.FeatureFields.{FeatureFields}
use Rattle.mapdefs.specs.declared.limits.TheConstants.{MAX_VERTICES}

-- the vertices of all parts
abbrev pub vertex_count : FeatureFields → ℕ
vertex_count f = sum_by length f.parts

-- there are not too many vertices
pub record IsFeatureWithinLimits (f : FeatureFields) : Type 0 where
  pub vertices : vertex_count f ≤ MAX_VERTICES
