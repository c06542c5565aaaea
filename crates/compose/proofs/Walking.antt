-- The paint list is what is painted of the classified features.
use Rattle.std.proofs.Common.{◌≡◌, ℕ, Bool, true, false, if◌then◌else◌, List, [], ◌∷◌, Option, None, Some, refl, sym}
use Rattle.std.proofs.lemmas.Grind.{flat_map-append}
use Rattle.std.proofs.lemmas.List.{append-nil}
use Rattle.std.specs.List.{flat_map, slice_get}
use Rattle.std.specs.Option.{option_map_or}
use Rattle.scaledenom.specs.Scale.{PictureScale}
use Rattle.scene.specs.Classes.{class_of, is_visible_layer}
use Rattle.mapdefs.specs.declared.class.ClassFields.{ClassFields}
use Rattle.mapdefs.specs.declared.feature.FeatureFields.{FeatureFields}
use Rattle.mapdefs.specs.declared.layer.LayerFields.{LayerFields}
use Rattle.mapdefs.specs.declared.map.MapFields.{MapFields}
use Rattle.mapdefs.specs.declared.symbol.Symbol.{Symbol}
use Rattle.viewport.specs.View.{ViewValue}
use Rattle.compose.specs.Paint.{chosen_shapes, class_shapes, feature_shapes, layer_shapes}
use Rattle.compose.specs.Walk.{PaintListIsOfClassified, classified_chosen, classified_feature, classified_layer, classified_shapes}

-- what each element gives, one after another
pub nested : {X Y Z : Type 0} (f : Y → List Z) (g : X → List Y) (h : X → List Z) → ((x : X) → h x ≡ flat_map f (g x)) → (xs : List X) → flat_map h xs ≡ flat_map f (flat_map g xs)
nested f g h same [] = refl
nested f g h same (x ∷ xs) = rw (flat_map-append f (g x) (flat_map g xs), same x, nested f g h same xs) refl

pub of-feature : (view : ViewValue) (scale : PictureScale) (symbols : List Symbol) (layer : LayerFields) (feature : FeatureFields) →
    feature_shapes view scale symbols layer feature ≡ flat_map (classified_shapes view symbols) (classified_feature scale layer feature)
of-feature view scale symbols layer feature = go (class_of scale layer feature)
  where
    go : (o : Option ClassFields) → option_map_or (class_shapes view symbols layer.kind feature) o []
        ≡ flat_map (classified_shapes view symbols) (option_map_or (λ (class : ClassFields). record { layer = layer; feature = feature; class = class } ∷ []) o [])
    go None = refl
    go (Some class) = sym (append-nil (class_shapes view symbols layer.kind feature class))

pub of-layer : (view : ViewValue) (scale : PictureScale) (symbols : List Symbol) (layer : LayerFields) →
    layer_shapes view scale symbols layer ≡ flat_map (classified_shapes view symbols) (classified_layer scale layer)
of-layer view scale symbols layer = go (is_visible_layer scale layer)
  where
    go : (b : Bool) → (if b then flat_map (feature_shapes view scale symbols layer) layer.features else [])
        ≡ flat_map (classified_shapes view symbols) (if b then flat_map (classified_feature scale layer) layer.features else [])
    go true = nested (classified_shapes view symbols) (classified_feature scale layer) (feature_shapes view scale symbols layer) (of-feature view scale symbols layer) layer.features
    go false = refl

pub of-chosen : (view : ViewValue) (scale : PictureScale) (m : MapFields) (index : ℕ) →
    chosen_shapes view scale m index ≡ flat_map (classified_shapes view m.symbols) (classified_chosen scale m index)
of-chosen view scale m index = go (slice_get m.layers index)
  where
    go : (o : Option LayerFields) → option_map_or (layer_shapes view scale m.symbols) o [] ≡ flat_map (classified_shapes view m.symbols) (option_map_or (classified_layer scale) o [])
    go None = refl
    go (Some layer) = of-layer view scale m.symbols layer

pub paint-list-of-classified : PaintListIsOfClassified
paint-list-of-classified view scale m chosen = nested (classified_shapes view m.symbols) (classified_chosen scale m) (chosen_shapes view scale m) (of-chosen view scale m) chosen
