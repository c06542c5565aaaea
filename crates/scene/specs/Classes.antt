-- Which layers are visible at a scale, and which class a feature belongs to (docs/MAPFILE.md, "Classes").
use Rattle.std.specs.Prelude.{Bool, ◌&&◌, Option, find}
use Rattle.scaledenom.specs.Scale.{PictureScale, is_visible}
use Rattle.mapdefs.specs.declared.layer.LayerFields.{LayerFields}
use Rattle.mapdefs.specs.declared.class.ClassFields.{ClassFields}
use Rattle.mapdefs.specs.declared.feature.FeatureFields.{FeatureFields}
use Rattle.mapdefs.specs.Class.{class_value, holds}

-- a layer is visible where its bounds on the scale allow it
abbrev pub is_visible_layer : PictureScale → LayerFields → Bool
is_visible_layer scale layer = is_visible scale layer.min layer.max

-- a feature may be of a class that is visible and whose rule is true of it
abbrev pub admits : PictureScale → LayerFields → FeatureFields → ClassFields → Bool
admits scale layer feature class =
    is_visible scale class.min class.max && holds class.rule layer.items feature.values (class_value layer feature)

-- the class of a feature: the first of the layer's classes that it may be of
abbrev pub class_of : PictureScale → LayerFields → FeatureFields → Option ClassFields
class_of scale layer feature = find (admits scale layer feature) layer.classes
