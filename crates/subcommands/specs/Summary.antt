-- The summary of a map that has no fault (docs/SERVICE.md, "The program").
use Rattle.std.specs.Prelude.{ℕ, ◌<◌, List, ◌++◌, length, take, Option, codes, sum_by}
use Rattle.std.specs.Fmt.{decimal}
use Rattle.std.specs.Io.KnownBytes.{Appends}
use Rattle.mapdefs.specs.declared.layer.LayerFields.{LayerFields}
use Rattle.mapdefs.specs.declared.map.MapFields.{MapFields}

-- how many features some layers have in all
abbrev pub feature_count : List LayerFields → ℕ
feature_count layers = sum_by (λ (layer : LayerFields). length layer.features) layers

-- the line of a map: how many layers it has, and how many features these have
abbrev pub summary_line : MapFields → List ℕ
summary_line map =
    codes "ok " ++ (decimal (length map.layers) ++ (codes " layers " ++ (decimal (feature_count map.layers) ++ codes " features\n")))

-- exactly the first so many bytes of the line were written, and not all
pub record HasPartlySummed (map : MapFields) (before after : Option (List ℕ)) (written : ℕ) : Type 0 where
  pub short : written < length (summary_line map)
  pub bytes : Appends before after (take written (summary_line map))
