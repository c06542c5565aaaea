-- Classes that all features of a layer have (docs/MAPFILE.md, "Classes").
use Rattle.std.specs.Prelude.{◌≡◌, Bool, true, false, ◌&&◌, if◌then◌else◌, List, [], ◌∷◌, Option, None, Some}
use Rattle.scaledenom.specs.Scale.{PictureScale}
use Rattle.scene.specs.Classes.{class_of}
use Rattle.mapdefs.specs.declared.class.ClassFields.{ClassFields}
use Rattle.mapdefs.specs.declared.class.Rule.{Rule}
use Rattle.mapdefs.specs.declared.class.Rule.TheVariants.{Always}
use Rattle.mapdefs.specs.declared.feature.FeatureFields.{FeatureFields}
use Rattle.mapdefs.specs.declared.layer.LayerFields.{LayerFields}

-- a rule is that of a class without an expression
abbrev pub is_always : Rule → Bool
is_always Always = true
is_always _ = false

-- a bound on the scale isn't given
abbrev pub is_open : {X : Type 0} → Option X → Bool
is_open None = true
is_open (Some bound) = false

-- a class takes all features at any scale: it has no expression and no bounds on the scale
abbrev pub takes_all : ClassFields → Bool
takes_all class = is_always class.rule && is_open class.min && is_open class.max

-- the first of a layer's classes, if it takes all features
abbrev pub common_class : List ClassFields → Option ClassFields
common_class [] = None
common_class (class ∷ rest) = if takes_all class then Some class else None

-- the law: that one is the class of each feature at each scale
abbrev pub CommonClassIsOfAll : Type 0
CommonClassIsOfAll = (scale : PictureScale) (layer : LayerFields) (feature : FeatureFields) (class : ClassFields) → common_class layer.classes ≡ Some class →
    class_of scale layer feature ≡ Some class
