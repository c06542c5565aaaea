-- Rows of a table that are added to those that wait beside a layer.
use Rattle.std.proofs.Common.{◌≡◌, ◌∙◌, ℕ, zero, suc, ◌+◌, ◌<◌, ◌≤◌, Bool, true, false, List, [], ◌∷◌, ◌++◌, length, get_or, map, Option, Some, Ok, Err, refl, sym, ap, arith, nat_lt}
use Rattle.std.proofs.lemmas.Bool.Decides.{nat_tests}
use Rattle.std.proofs.lemmas.List.{length-append, length-map}
use Rattle.std.proofs.lemmas.List.Elements.{All-append}
use Rattle.std.proofs.lemmas.Option.{slice_get-get_or}
use Rattle.std.specs.List.{slice_get}
use Rattle.std.specs.Prelude.{slice_set}
use Rattle.csvpoints.specs.declared.table.TableFields.{TableFields}
use Rattle.mapdefs.specs.Change.{HasRoomFor, extended, with_layer}
use Rattle.mapdefs.specs.LayerLimits.{HasValues}
use Rattle.mapdefs.specs.declared.feature.FeatureFields.{FeatureFields}
use Rattle.mapdefs.specs.declared.layer.LayerFields.{LayerFields}
use Rattle.mapdefs.specs.declared.limits.TheConstants.{MAX_FEATURES}
use Rattle.mapdefs.specs.declared.map.MapFields.{MapFields}
use Rattle.layers.specs.Change.{append_at, appended, fitted, is_of_points, layer_at, of_points}
use Rattle.mapdefs.specs.Outcome.{and_then}
use Rattle.layers.specs.Draft.{with_more}
use Rattle.layers.specs.declared.fault.Refusal.TheVariants.{Full, NotPoints}
use Rattle.layers.proofs.Appending.{fitted-values}
use Rattle.layers.proofs.Drafting.{appended-more, get-extended}

-- the layer at an index
pub layer-there : (layers slice : List LayerFields) (index : ℕ) (layer : LayerFields) → slice ≡ layers → index < length layers → layer ≡ get_or slice index layer → slice_get layers index ≡ Some layer
layer-there layers slice index layer same within is = slice_get-get_or layers index layer within ∙ ap Some (sym (rw same at is))

-- an element at an index is the same whatever the default is
pub whatever-none : {X : Type 0} (xs : List X) (index : ℕ) (x d : X) → index < length xs → x ≡ get_or xs index x → x ≡ get_or xs index d
whatever-none [] index x d h e = absurd (omega arith)
whatever-none (y ∷ ys) zero x d h e = e
whatever-none (y ∷ ys) (suc index) x d h e = whatever-none ys index x d (omega arith) e

-- a table is refused by a layer that isn't one of points
not-points : (m : MapFields) (index : ℕ) (layer : LayerFields) (table : TableFields) → slice_get m.layers index ≡ Some layer → is_of_points layer.kind ≡ false → append_at index table m ≡ Err NotPoints
not-points m index layer table e kind =
    ap (λ (o : Option LayerFields). and_then (and_then (layer_at index o) of_points) (appended table m)) e ∙ rw kind refl

-- and by a layer without the room
is-full : (m : MapFields) (index : ℕ) (layer : LayerFields) (table : TableFields) → slice_get m.layers index ≡ Some layer → is_of_points layer.kind ≡ true →
    MAX_FEATURES < length layer.features + length table.features → append_at index table m ≡ Err Full
is-full m index layer table e kind full =
    ap (λ (o : Option LayerFields). and_then (and_then (layer_at index o) of_points) (appended table m)) e ∙ by (nat_lt MAX_FEATURES (length layer.features + length table.features)) refl
  where
    by : (t : Bool) → nat_lt MAX_FEATURES (length layer.features + length table.features) ≡ t → and_then (of_points (index, layer)) (appended table m) ≡ Err Full
    by true h = rw (kind, h) refl
    by false h = absurd (grind (arith, nat_tests))

-- else its rows come after the features
is-appended : (m : MapFields) (index : ℕ) (layer : LayerFields) (table : TableFields) (xs : List FeatureFields) → slice_get m.layers index ≡ Some layer → is_of_points layer.kind ≡ true →
    length layer.features + length table.features ≤ MAX_FEATURES → xs ≡ map (fitted layer.items table.columns) table.features →
    append_at index table m ≡ Ok (with_layer index (extended xs) m)
is-appended m index layer table xs e kind room made =
    ap (λ (o : Option LayerFields). and_then (and_then (layer_at index o) of_points) (appended table m)) e ∙ by (nat_lt MAX_FEATURES (length layer.features + length table.features)) refl
  where
    by : (t : Bool) → nat_lt MAX_FEATURES (length layer.features + length table.features) ≡ t → and_then (of_points (index, layer)) (appended table m) ≡ Ok (with_layer index (extended xs) m)
    by true h = absurd (grind (arith, nat_tests))
    by false h = rw (kind, h, made) refl

-- the same where features wait
pub waits-not : (more : List (List FeatureFields)) (m : MapFields) (index : ℕ) (layer : LayerFields) (table : TableFields) → slice_get m.layers index ≡ Some layer → is_of_points layer.kind ≡ false →
    append_at index table (with_more more m) ≡ Err NotPoints
waits-not more m index layer table e kind =
    not-points (with_more more m) index (extended (get_or more index []) layer) table (get-extended more m.layers index layer e) kind

pub waits-full : (more : List (List FeatureFields)) (m : MapFields) (index : ℕ) (layer : LayerFields) (table : TableFields) → slice_get m.layers index ≡ Some layer → is_of_points layer.kind ≡ true →
    MAX_FEATURES < length layer.features + length (get_or more index []) + length table.features → append_at index table (with_more more m) ≡ Err Full
waits-full more m index layer table e kind full =
    is-full (with_more more m) index (extended (get_or more index []) layer) table (get-extended more m.layers index layer e) kind
    (omega (arith, full, length-append layer.features (get_or more index [])))

pub waits-appended : (more : List (List FeatureFields)) (m : MapFields) (index : ℕ) (layer : LayerFields) (table : TableFields) (xs : List FeatureFields) → slice_get m.layers index ≡ Some layer →
    is_of_points layer.kind ≡ true → index < length more → length layer.features + length (get_or more index []) + length table.features ≤ MAX_FEATURES →
    xs ≡ map (fitted layer.items table.columns) table.features → append_at index table (with_more more m) ≡ Ok (with_more (slice_set more index (get_or more index [] ++ xs)) m)
waits-appended more m index layer table xs e kind there room made =
    is-appended (with_more more m) index (extended (get_or more index []) layer) table xs (get-extended more m.layers index layer e) kind
    (omega (arith, room, length-append layer.features (get_or more index []))) made
    ∙ ap Ok (appended-more xs more m index there)

-- the layer has room for all that waits then
pub has-room : (waiting xs features : List FeatureFields) (layer : LayerFields) (columns : List (List ℕ)) → HasRoomFor waiting layer →
    xs ≡ map (fitted layer.items columns) features → length layer.features + length waiting + length features ≤ MAX_FEATURES → HasRoomFor (waiting ++ xs) layer
has-room waiting xs features layer columns has made room = record {
  count = omega (arith, room, length-append waiting xs, ap length made, length-map features (fitted layer.items columns));
  values = rw made (All-append (HasValues (length layer.items)) waiting (map (fitted layer.items columns) features) has.values (fitted-values layer.items columns features));
}
