-- Changes of a layer, and the boxes of the layers.
use Rattle.std.proofs.Common.{Vec, Global, ◌≡◌, ◌∙◌, ℕ, zero, suc, ◌<◌, Bool, true, List, [], ◌∷◌, length, get_or, map, Option, Some, Result, IfOk, Ok, Err, refl, sym, ap, arith}
use Rattle.std.proofs.lemmas.List.{length-map}
use Rattle.std.proofs.lemmas.List.Elements.{All-from_get_or, Contains-get_or}
use Rattle.std.proofs.lemmas.Option.{slice_get-get_or, slice_get_within}
use Rattle.std.specs.List.{slice_get}
use Rattle.std.specs.Prelude.{slice_set}
use Rattle.geom.specs.World.{Area}
use Rattle.gridindex.specs.Window.{IsAnswer, MeetsAt}
use Rattle.mapdefs.specs.Change.{changed_at, emptied, switched}
use Rattle.mapdefs.specs.Name.{index_of}
use Rattle.mapdefs.specs.declared.feature.FeatureFields.{FeatureFields}
use Rattle.mapdefs.specs.declared.layer.LayerFields.{LayerFields}
use Rattle.mapdefs.specs.declared.map.MapFields.{MapFields}
use Rattle.mapdefs.specs.Near.{AreCandidates, AreCandidatesOf}
use Rattle.layers.specs.Boxes.{box_of, boxes_of}
use Rattle.layers.specs.Change.{IsFoundAt, found, found_points, is_of_points, layer_at, named, of_points}
use Rattle.mapdefs.specs.Outcome.{and_then}
use Rattle.layers.specs.declared.fault.Refusal.{Refusal}
use Rattle.layers.proofs.Enclosing.{box-has}

-- there is an element at each index
pub at-index : {X : Type 0} (xs : List X) (index : ℕ) → index < length xs → (x : X) × (slice_get xs index ≡ Some x)
at-index [] index h = absurd (omega arith)
at-index (x ∷ xs) zero h = (x, refl)
at-index (x ∷ xs) (suc index) h = at-index xs index (omega arith)

-- setting an element and then mapping sets the mapped value
pub map-slice_set : {X Y : Type 0} (f : X → Y) (xs : List X) (index : ℕ) (x : X) → map f (slice_set xs index x) ≡ slice_set (map f xs) index (f x)
map-slice_set f [] index x = refl
map-slice_set f (y ∷ ys) zero x = refl
map-slice_set f (y ∷ ys) (suc index) x = ap (λ zs. f y ∷ zs) (map-slice_set f ys index x)

-- setting an element to its own value changes nothing
pub set-same : {X : Type 0} (xs : List X) (index : ℕ) (x : X) → slice_get xs index ≡ Some x → slice_set xs index x ≡ xs
set-same [] index x e = absurd (cc)
set-same (y ∷ ys) zero x e = let is : y ≡ x = cc in ap (λ z. z ∷ ys) (sym is)
set-same (y ∷ ys) (suc index) x e = ap (λ zs. y ∷ zs) (set-same ys index x e)

-- an element of what a function gives
pub get-map : {X Y : Type 0} (f : X → Y) (xs : List X) (index : ℕ) (x : X) → slice_get xs index ≡ Some x → slice_get (map f xs) index ≡ Some (f x)
get-map f [] index x e = absurd (cc)
get-map f (y ∷ ys) zero x e = let is : y ≡ x = cc in ap (λ z. Some (f z)) is
get-map f (y ∷ ys) (suc index) x e = get-map f ys index x e

-- the boxes of layers of which one is changed
pub boxes-changed : (index : ℕ) (change : LayerFields → LayerFields) (layers : List LayerFields) (layer : LayerFields) → slice_get layers index ≡ Some layer →
    map boxes_of (changed_at index change layers) ≡ slice_set (map boxes_of layers) index (boxes_of (change layer))
boxes-changed index change layers layer e = rw e (map-slice_set boxes_of layers index (change layer))

-- a switched layer has the boxes that it had
pub boxes-switched : (index : ℕ) (on : Bool) (layers : List LayerFields) → index < length layers →
    map boxes_of (changed_at index (switched on) layers) ≡ map boxes_of layers
boxes-switched index on layers h =
    let (layer, e) = at-index layers index h in
    boxes-changed index (switched on) layers layer e ∙ set-same (map boxes_of layers) index (boxes_of layer) (get-map boxes_of layers index layer e)

-- and one without features has none
pub boxes-emptied : (index : ℕ) (layers : List LayerFields) → index < length layers →
    map boxes_of (changed_at index emptied layers) ≡ slice_set (map boxes_of layers) index []
boxes-emptied index layers h = let (layer, e) = at-index layers index h in boxes-changed index emptied layers layer e

-- the layer with a name is found where its index is
pub found-is : (name : List ℕ) (m : MapFields) (index : ℕ) (layer : LayerFields) → Some index ≡ index_of name m.layers → index < length m.layers → layer ≡ get_or m.layers index layer →
    found name m ≡ Ok (index, layer)
found-is name m index layer e h is =
    ap (λ (o : Option ℕ). named o m.layers) (sym e) ∙ ap (layer_at index) (slice_get-get_or m.layers index layer h ∙ ap Some (sym is))

-- the indices of the boxes that meet a window are candidates
pub grid-candidates : (features : List FeatureFields) (window : Area) (found : List ℕ) → IsAnswer window (map box_of features) found → AreCandidates features window found
grid-candidates features window found answer = record {
  rising = answer.rising;
  indices = All-from_get_or (λ (k : ℕ). k < length features) found 0 (λ i h. within (get_or found i 0) ((answer.exact (get_or found i 0)).0 (Contains-get_or found i 0 h)));
  each = λ k feature is near. (answer.exact k).1 (box_of feature, get-map box_of features k feature is, (near.0, near.1, box-has feature near.0 near.2));
}
  where
    within : (k : ℕ) → MeetsAt window (map box_of features) k → k < length features
    within k (area, e, m) = omega (arith, slice_get_within (map box_of features) k area e, length-map features box_of)

-- the same for the layer at an index
pub candidates-at : (m : MapFields) (index : ℕ) (window : Area) (grid : List Area) (found : List ℕ) → index < length m.layers →
    slice_get (map boxes_of m.layers) index ≡ Some grid → IsAnswer window grid found → AreCandidatesOf m index window found
candidates-at m index window grid found h e answer =
    let (layer, f) = at-index m.layers index h in
    let same : Some (boxes_of layer) ≡ Some grid = sym (get-map boxes_of m.layers index layer f) ∙ e in
    let is : boxes_of layer ≡ grid = cc in
    rw f (grid-candidates layer.features window found (rw (← is) at answer))

-- where there is an answer
pub ok-candidates : {E : Type 0} (r : Result (Vec ℕ Global) E) (m : MapFields) (index : ℕ) (window : Area) (grids : List (List Area)) (grid : List Area) → index < length m.layers →
    grids ≡ map boxes_of m.layers → grid ≡ get_or grids index grid → IfOk r (λ found. IsAnswer window grid found.items) → IfOk r (λ found. AreCandidatesOf m index window found.items)
ok-candidates (Err e) m index window grids grid h kept is answer = tt
ok-candidates (Ok found) m index window grids grid h kept is answer =
    let same : slice_get (map boxes_of m.layers) index ≡ Some grid =
    slice_get-get_or (map boxes_of m.layers) index grid (omega (arith, h, length-map m.layers boxes_of)) ∙ ap Some (sym (rw kept at is)) in
    candidates-at m index window grid found.items h same answer

-- the layer of points with a name
pub points-found : (name : List ℕ) (m : MapFields) (index : ℕ) (layer : LayerFields) → Some index ≡ index_of name m.layers → index < length m.layers → layer ≡ get_or m.layers index layer →
    is_of_points layer.kind ≡ true → IsFoundAt (found_points name m) index m
points-found name m index layer e h is points =
    (layer, ap (λ (r : Result (ℕ × LayerFields) Refusal). and_then r of_points) (found-is name m index layer e h is) ∙ rw points refl, slice_get-get_or m.layers index layer h ∙ ap Some (sym is))
