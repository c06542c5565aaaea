-- Changes of layers beside which features wait, and the layers with all of them.
use Rattle.std.proofs.Common.{◌≡◌, ◌∙◌, ℕ, zero, suc, ◌+◌, ◌<◌, Bool, true, false, if◌then◌else◌, List, [], ◌∷◌, ◌++◌, length, get_or, cond, not, IfOk, Option, None, Some, Result, Ok, Err, refl, sym, ap, arith, append-nil, MatchResult}
use Rattle.std.proofs.lemmas.List.{append_assoc}
use Rattle.std.specs.List.{position_or_len, slice_get}
use Rattle.std.specs.Option.{option_map_or}
use Rattle.std.specs.Prelude.{slice_set}
use Rattle.mapdefs.specs.Change.{changed_at, emptied, extended, switched, with_layer}
use Rattle.mapdefs.specs.Name.{index_of, is_same_name}
use Rattle.mapdefs.specs.declared.feature.FeatureFields.{FeatureFields}
use Rattle.mapdefs.specs.declared.layer.LayerFields.{LayerFields}
use Rattle.mapdefs.specs.declared.map.MapFields.{MapFields}
use Rattle.layers.specs.Change.{IsFoundAt, clear, found, found_points, is_of_points, layer_at, named, of_points, switch}
use Rattle.mapdefs.specs.Outcome.{and_then}
use Rattle.layers.specs.Draft.{extended_first, with_more}
use Rattle.layers.specs.declared.fault.Refusal.{Refusal}
use Rattle.layers.specs.declared.fault.Refusal.TheVariants.{NotPoints}

-- a layer to which nothing is added stays
pub extended-nothing : (layer : LayerFields) → extended [] layer ≡ layer
extended-nothing layer = ap (λ fs. record layer { features = fs }) (append-nil layer.features)

-- the layer at an index with what waits beside it
pub get-extended : (more : List (List FeatureFields)) (layers : List LayerFields) (index : ℕ) (layer : LayerFields) → slice_get layers index ≡ Some layer →
    slice_get (extended_first more layers) index ≡ Some (extended (get_or more index []) layer)
get-extended [] layers index layer e = e ∙ ap Some (sym (extended-nothing layer))
get-extended (x ∷ more) [] index layer e = absurd (cc)
get-extended (x ∷ more) (y ∷ layers) zero layer e = let is : y ≡ layer = cc in ap (λ l. Some (extended x l)) is
get-extended (x ∷ more) (y ∷ layers) (suc index) layer e = get-extended more layers index layer e

-- there are as many layers
pub length-extended : (more : List (List FeatureFields)) (layers : List LayerFields) → length (extended_first more layers) ≡ length layers
length-extended [] layers = refl
length-extended (x ∷ more) [] = refl
length-extended (x ∷ more) (y ∷ layers) = ap suc (length-extended more layers)

-- there is none after the last
none-extended : (more : List (List FeatureFields)) (layers : List LayerFields) (index : ℕ) → slice_get layers index ≡ None → slice_get (extended_first more layers) index ≡ None
none-extended [] layers index e = e
none-extended (x ∷ more) [] index e = e
none-extended (x ∷ more) (y ∷ layers) zero e = absurd (cc)
none-extended (x ∷ more) (y ∷ layers) (suc index) e = none-extended more layers index e

-- the layer with a name has the index that it had
position-extended : (name : List ℕ) (more : List (List FeatureFields)) (layers : List LayerFields) →
    position_or_len (λ (layer : LayerFields). is_same_name layer.name name) (extended_first more layers) ≡ position_or_len (λ (layer : LayerFields). is_same_name layer.name name) layers
position-extended name [] layers = refl
position-extended name (x ∷ more) [] = refl
position-extended name (x ∷ more) (y ∷ layers) = ap (λ (n : ℕ). cond (not (is_same_name y.name name)) (1 + n) 0) (position-extended name more layers)

pub index-extended : (name : List ℕ) (more : List (List FeatureFields)) (layers : List LayerFields) → index_of name (extended_first more layers) ≡ index_of name layers
index-extended name more layers = rw (position-extended name more layers, length-extended more layers) refl

-- what was found, with what waits beside it
abbrev grown : List (List FeatureFields) → Result (ℕ × LayerFields) Refusal → Result (ℕ × LayerFields) Refusal
grown more (Ok f) = Ok (f.0, extended (get_or more f.0 []) f.1)
grown more (Err refusal) = Err refusal

-- a changed map, with what waits beside its layers
abbrev beside : List (List FeatureFields) → Result MapFields Refusal → Result MapFields Refusal
beside more (Ok m) = Ok (with_more more m)
beside more (Err refusal) = Err refusal

found-more : (name : List ℕ) (more : List (List FeatureFields)) (m : MapFields) → found name (with_more more m) ≡ grown more (found name m)
found-more name more m = ap (λ (o : Option ℕ). named o (extended_first more m.layers)) (index-extended name more m.layers) ∙ by-index (index_of name m.layers)
  where
    by-layer : (index : ℕ) (o : Option LayerFields) → slice_get m.layers index ≡ o → layer_at index (slice_get (extended_first more m.layers) index) ≡ grown more (layer_at index o)
    by-layer index None e = ap (layer_at index) (none-extended more m.layers index e)
    by-layer index (Some layer) e = ap (layer_at index) (get-extended more m.layers index layer e)

    by-index : (o : Option ℕ) → named o (extended_first more m.layers) ≡ grown more (named o m.layers)
    by-index None = refl
    by-index (Some index) = by-layer index (slice_get m.layers index) refl

points-more : (name : List ℕ) (more : List (List FeatureFields)) (m : MapFields) → found_points name (with_more more m) ≡ grown more (found_points name m)
points-more name more m = ap (λ (r : Result (ℕ × LayerFields) Refusal). and_then r of_points) (found-more name more m) ∙ by-result (found name m)
  where
    by-kind : (f : ℕ × LayerFields) (points : Bool) →
        (if points then Ok (f.0, extended (get_or more f.0 []) f.1) else Err NotPoints) ≡ grown more (if points then Ok f else Err NotPoints)
    by-kind f true = refl
    by-kind f false = refl

    by-result : (r : Result (ℕ × LayerFields) Refusal) → and_then (grown more r) of_points ≡ grown more (and_then r of_points)
    by-result (Err refusal) = refl
    by-result (Ok f) = by-kind f (is_of_points f.1.kind)

-- what was found in the layers is found with what waits beside them
pub points-matched : (name : List ℕ) (more : List (List FeatureFields)) (m : MapFields) (result : Result ℕ Refusal) →
    MatchResult result (λ index. IsFoundAt (found_points name m) index m) (λ refusal. found_points name m ≡ Err refusal) →
    MatchResult result (λ index. IsFoundAt (found_points name (with_more more m)) index (with_more more m)) (λ refusal. found_points name (with_more more m) ≡ Err refusal)
points-matched name more m (Ok index) (layer, e, there) =
    (extended (get_or more index []) layer, points-more name more m ∙ ap (grown more) e, get-extended more m.layers index layer there)
points-matched name more m (Err refusal) e = points-more name more m ∙ ap (grown more) e

-- at the index of a layer
pub points-within : (more : List (List FeatureFields)) (m : MapFields) (result : Result ℕ Refusal) → IfOk result (λ index. index < length m.layers) →
    IfOk result (λ index. index < length (with_more more m).layers)
points-within more m (Ok index) h = omega (arith, h, length-extended more m.layers)
points-within more m (Err refusal) h = h

-- a change after the first layer
pub changed-behind : (index : ℕ) (change : LayerFields → LayerFields) (layer : LayerFields) (layers : List LayerFields) →
    changed_at (suc index) change (layer ∷ layers) ≡ layer ∷ changed_at index change layers
changed-behind index change layer layers = go (slice_get layers index)
  where
    go : (o : Option LayerFields) → option_map_or (λ l. slice_set (layer ∷ layers) (suc index) (change l)) o (layer ∷ layers) ≡ layer ∷ option_map_or (λ l. slice_set layers index (change l)) o layers
    go None = refl
    go (Some l) = refl

-- a change that leaves the features may come before or after what waits
changed-more : (change : LayerFields → LayerFields) → ((x : List FeatureFields) (l : LayerFields) → change (extended x l) ≡ extended x (change l)) →
    (more : List (List FeatureFields)) (layers : List LayerFields) (index : ℕ) → changed_at index change (extended_first more layers) ≡ extended_first more (changed_at index change layers)
changed-more change same [] layers index = refl
changed-more change same (x ∷ more) [] index = refl
changed-more change same (x ∷ more) (y ∷ layers) zero = ap (λ l. l ∷ extended_first more layers) (same x y)
changed-more change same (x ∷ more) (y ∷ layers) (suc index) =
    changed-behind index change (extended x y) (extended_first more layers)
    ∙ (ap (λ ls. extended x y ∷ ls) (changed-more change same more layers index)
    ∙ ap (extended_first (x ∷ more)) (sym (changed-behind index change y layers)))

switch-more : (name : List ℕ) (on : Bool) (more : List (List FeatureFields)) (m : MapFields) → switch name on (with_more more m) ≡ beside more (switch name on m)
switch-more name on more m =
    ap (λ (r : Result (ℕ × LayerFields) Refusal). and_then r (λ f. Ok (with_layer f.0 (switched on) (with_more more m)))) (found-more name more m) ∙ by-result (found name m)
  where
    by-result : (r : Result (ℕ × LayerFields) Refusal) → and_then (grown more r) (λ f. Ok (with_layer f.0 (switched on) (with_more more m))) ≡
        beside more (and_then r (λ f. Ok (with_layer f.0 (switched on) m)))
    by-result (Err refusal) = refl
    by-result (Ok f) = ap (λ ls. Ok (record m { layers = ls })) (changed-more (switched on) (λ x l. refl) more m.layers f.0)

-- a switch of the layers is one of all
pub switch-matched : (name : List ℕ) (on : Bool) (more : List (List FeatureFields)) (m new : MapFields) (result : Result Unit Refusal) →
    MatchResult result (λ _. switch name on m ≡ Ok new) (λ refusal. (switch name on m ≡ Err refusal) × (new ≡ m)) →
    MatchResult result (λ _. switch name on (with_more more m) ≡ Ok (with_more more new)) (λ refusal. (switch name on (with_more more m) ≡ Err refusal) × (with_more more new ≡ with_more more m))
switch-matched name on more m new (Ok u) e = switch-more name on more m ∙ ap (beside more) e
switch-matched name on more m new (Err refusal) (e, same) = (switch-more name on more m ∙ ap (beside more) e, ap (with_more more) same)

-- a layer that is emptied, with what waits beside it
cleared-layers : (more : List (List FeatureFields)) (layers : List LayerFields) (index : ℕ) →
    extended_first (slice_set more index []) (changed_at index emptied layers) ≡ changed_at index emptied (extended_first more layers)
cleared-layers [] layers index = refl
cleared-layers (x ∷ more) [] zero = refl
cleared-layers (x ∷ more) [] (suc index) = refl
cleared-layers (x ∷ more) (y ∷ layers) zero = refl
cleared-layers (x ∷ more) (y ∷ layers) (suc index) =
    ap (extended_first (x ∷ slice_set more index [])) (changed-behind index emptied y layers)
    ∙ (ap (λ ls. extended x y ∷ ls) (cleared-layers more layers index)
    ∙ sym (changed-behind index emptied (extended x y) (extended_first more layers)))

pub cleared-more : (more : List (List FeatureFields)) (m : MapFields) (index : ℕ) →
    with_more (slice_set more index []) (with_layer index emptied m) ≡ with_layer index emptied (with_more more m)
cleared-more more m index = ap (λ ls. record m { layers = ls }) (cleared-layers more m.layers index)

-- where the layer of points with a name is found, it can be emptied
pub clear-found : (name : List ℕ) (m : MapFields) (index : ℕ) → IsFoundAt (found_points name m) index m → clear name m ≡ Ok (with_layer index emptied m)
clear-found name m index (layer, e, there) = ap (λ (r : Result (ℕ × LayerFields) Refusal). and_then r (λ f. Ok (with_layer f.0 emptied m))) e

-- features after those that wait beside a layer
appended-layers : (xs : List FeatureFields) (more : List (List FeatureFields)) (layers : List LayerFields) (index : ℕ) → index < length more →
    changed_at index (extended xs) (extended_first more layers) ≡ extended_first (slice_set more index (get_or more index [] ++ xs)) layers
appended-layers xs [] layers index h = absurd (omega arith)
appended-layers xs (x ∷ more) [] zero h = refl
appended-layers xs (x ∷ more) [] (suc index) h = refl
appended-layers xs (x ∷ more) (y ∷ layers) zero h =
    ap (λ fs. record y { features = fs } ∷ extended_first more layers) (append_assoc y.features x xs)
appended-layers xs (x ∷ more) (y ∷ layers) (suc index) h =
    changed-behind index (extended xs) (extended x y) (extended_first more layers)
    ∙ ap (λ ls. extended x y ∷ ls) (appended-layers xs more layers index (omega arith))

pub appended-more : (xs : List FeatureFields) (more : List (List FeatureFields)) (m : MapFields) (index : ℕ) → index < length more →
    with_layer index (extended xs) (with_more more m) ≡ with_more (slice_set more index (get_or more index [] ++ xs)) m
appended-more xs more m index h = ap (λ ls. record m { layers = ls }) (appended-layers xs more m.layers index h)

-- it can be with what waits beside it
pub clear-waits : (name : List ℕ) (more : List (List FeatureFields)) (m : MapFields) (index : ℕ) → IsFoundAt (found_points name m) index m →
    clear name (with_more more m) ≡ Ok (with_more (slice_set more index []) (with_layer index emptied m))
clear-waits name more m index found = clear-found name (with_more more m) index (points-matched name more m (Ok index) found) ∙ ap Ok (sym (cleared-more more m index))

-- and where none is found, it can't
pub clear-refused : (name : List ℕ) (more : List (List FeatureFields)) (m : MapFields) (refusal : Refusal) → found_points name m ≡ Err refusal → clear name (with_more more m) ≡ Err refusal
clear-refused name more m refusal e =
    ap (λ (r : Result (ℕ × LayerFields) Refusal). and_then r (λ f. Ok (with_layer f.0 emptied (with_more more m)))) (points-matched name more m (Err refusal) e)
