-- The class that all features of a layer have.
use Rattle.std.proofs.Common.{◌≡◌, Bool, true, false, ◌&&◌, if◌then◌else◌, List, [], ◌∷◌, Option, None, Some, refl}
use Rattle.std.proofs.lemmas.Bool.{and_parts}
use Rattle.std.specs.List.{find}
use Rattle.scaledenom.specs.Scale.{PictureScale}
use Rattle.scene.specs.Classes.{admits}
use Rattle.mapdefs.specs.declared.class.ClassFields.{ClassFields}
use Rattle.mapdefs.specs.declared.class.Rule.{Rule}
use Rattle.mapdefs.specs.declared.class.Rule.TheVariants.{Always, Equals, OneOf, Logic}
use Rattle.mapdefs.specs.declared.feature.FeatureFields.{FeatureFields}
use Rattle.mapdefs.specs.declared.layer.LayerFields.{LayerFields}
use Rattle.compose.specs.Classes.{CommonClassIsOfAll, common_class, is_always, is_open, takes_all}

always-is : (r : Rule) → is_always r ≡ true → r ≡ Always
always-is Always e = refl
always-is (Equals text) e = absurd (cc)
always-is (OneOf texts) e = absurd (cc)
always-is (Logic expr) e = absurd (cc)

open-is : {X : Type 0} (o : Option X) → is_open o ≡ true → o ≡ None
open-is None e = refl
open-is (Some bound) e = absurd (cc)

-- a class that takes all features takes each at each scale
all-admitted : (scale : PictureScale) (layer : LayerFields) (feature : FeatureFields) (class : ClassFields) → takes_all class ≡ true → admits scale layer feature class ≡ true
all-admitted scale layer feature class e =
    let outer = and_parts (is_always class.rule && is_open class.min) (is_open class.max) e in
    let inner = and_parts (is_always class.rule) (is_open class.min) outer.0 in
    rw (always-is class.rule inner.0, open-is class.min inner.1, open-is class.max outer.1) refl

-- the law
pub common-class-law : CommonClassIsOfAll
common-class-law scale layer feature class h = go layer.classes h
  where
    pick : (first : ClassFields) (rest : List ClassFields) (t : Bool) → takes_all first ≡ t → (if t then Some first else None) ≡ Some class → find (admits scale layer feature) (first ∷ rest) ≡ Some class
    pick first rest true e h = rw (all-admitted scale layer feature first e) h
    pick first rest false e h = absurd (cc)

    go : (classes : List ClassFields) → common_class classes ≡ Some class → find (admits scale layer feature) classes ≡ Some class
    go [] h = absurd (cc)
    go (first ∷ rest) h = pick first rest (takes_all first) refl h
