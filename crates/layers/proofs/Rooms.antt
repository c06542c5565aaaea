-- Each layer has room for the features that wait beside it.
use Rattle.std.proofs.Common.{◌≡◌, ◌∙◌, ℕ, zero, suc, Bool, List, [], ◌∷◌, ◌++◌, length, get_or, Some, Result, Ok, Err, MatchResult, ap, arith}
use Rattle.std.proofs.lemmas.List.Elements.{All-nil}
use Rattle.std.specs.List.{AllZip, slice_get}
use Rattle.std.specs.Prelude.{slice_set}
use Rattle.mapdefs.specs.Change.{HasRoomFor, changed_at, emptied, extended, switched, with_layer}
use Rattle.mapdefs.specs.LayerLimits.{HasValues}
use Rattle.mapdefs.specs.declared.feature.FeatureFields.{FeatureFields}
use Rattle.mapdefs.specs.declared.layer.LayerFields.{LayerFields}
use Rattle.mapdefs.specs.declared.map.MapFields.{MapFields}
use Rattle.layers.specs.Change.{found, switch}
use Rattle.mapdefs.specs.Outcome.{and_then}
use Rattle.layers.specs.declared.fault.Refusal.{Refusal}
use Rattle.layers.specs.Draft.{extended_first}
use Rattle.layers.proofs.Drafting.{changed-behind, extended-nothing}

-- so it has where a layer is changed, if the change leaves it room
room-changed : (change : LayerFields → LayerFields) → ((x : List FeatureFields) (l : LayerFields) → HasRoomFor x l → HasRoomFor x (change l)) →
    (more : List (List FeatureFields)) (layers : List LayerFields) (index : ℕ) → AllZip HasRoomFor more layers → AllZip HasRoomFor more (changed_at index change layers)
room-changed change keeps [] [] index room = room
room-changed change keeps [] (y ∷ layers) index room = absurd room
room-changed change keeps (x ∷ more) [] index room = absurd room
room-changed change keeps (x ∷ more) (y ∷ layers) zero room = (keeps x y room.0, room.1)
room-changed change keeps (x ∷ more) (y ∷ layers) (suc index) room =
    rw (changed-behind index change y layers) (room.0, room-changed change keeps more layers index room.1)

-- after a switch
pub room-switched : (name : List ℕ) (on : Bool) (more : List (List FeatureFields)) (m new : MapFields) → switch name on m ≡ Ok new → AllZip HasRoomFor more m.layers →
    AllZip HasRoomFor more new.layers
room-switched name on more m new e room = go (found name m) e
  where
    go : (r : Result (ℕ × LayerFields) Refusal) → and_then r (λ f. Ok (with_layer f.0 (switched on) m)) ≡ Ok new → AllZip HasRoomFor more new.layers
    go (Err refusal) h = absurd (cc)
    go (Ok f) h =
        let is : with_layer f.0 (switched on) m ≡ new = cc in
        rw (← is) (room-changed (switched on) (λ x l r. record { count = r.count; values = r.values }) more m.layers f.0 room)

-- where nothing waits any more
pub room-cleared : (more : List (List FeatureFields)) (layers : List LayerFields) (index : ℕ) → AllZip HasRoomFor more layers → AllZip HasRoomFor (slice_set more index []) (changed_at index emptied layers)
room-cleared [] [] index room = room
room-cleared [] (y ∷ layers) index room = absurd room
room-cleared (x ∷ more) [] index room = absurd room
room-cleared (x ∷ more) (y ∷ layers) zero room = (record { count = omega arith; values = All-nil (HasValues (length y.items)) }, room.1)
room-cleared (x ∷ more) (y ∷ layers) (suc index) room = rw (changed-behind index emptied y layers) (room.0, room-cleared more layers index room.1)

-- of the features that wait beside the layer at an index
pub room-at : (more : List (List FeatureFields)) (layers : List LayerFields) (index : ℕ) (layer : LayerFields) → AllZip HasRoomFor more layers → slice_get layers index ≡ Some layer →
    HasRoomFor (get_or more index []) layer
room-at [] [] index layer room e = absurd (cc)
room-at [] (y ∷ layers) index layer room e = absurd room
room-at (x ∷ more) [] index layer room e = absurd room
room-at (x ∷ more) (y ∷ layers) zero layer room e = let is : y ≡ layer = cc in rw (← is) room.0
room-at (x ∷ more) (y ∷ layers) (suc index) layer room e = room-at more layers index layer room.1 e

-- and where other features wait there
pub room-set : (more : List (List FeatureFields)) (layers : List LayerFields) (index : ℕ) (layer : LayerFields) (xs : List FeatureFields) → AllZip HasRoomFor more layers →
    slice_get layers index ≡ Some layer → HasRoomFor xs layer → AllZip HasRoomFor (slice_set more index xs) layers
room-set [] [] index layer xs room e has = room
room-set [] (y ∷ layers) index layer xs room e has = absurd room
room-set (x ∷ more) [] index layer xs room e has = absurd room
room-set (x ∷ more) (y ∷ layers) zero layer xs room e has = let is : y ≡ layer = cc in (rw is has, room.1)
room-set (x ∷ more) (y ∷ layers) (suc index) layer xs room e has = (room.0, room-set more layers index layer xs room.1 e has)

-- one layer more
pub room-push : (more : List (List FeatureFields)) (layers : List LayerFields) (x : List FeatureFields) (layer : LayerFields) → AllZip HasRoomFor more layers → HasRoomFor x layer →
    AllZip HasRoomFor (more ++ x ∷ []) (layers ++ layer ∷ [])
room-push [] [] x layer room has = (has, tt)
room-push [] (y ∷ layers) x layer room has = absurd room
room-push (z ∷ more) [] x layer room has = absurd room
room-push (z ∷ more) (y ∷ layers) x layer room has = (room.0, room-push more layers x layer room.1 has)

-- beside which nothing waits
pub none-push : (more : List (List FeatureFields)) (layers : List LayerFields) (layer : LayerFields) → AllZip HasRoomFor more layers → extended_first more layers ≡ layers →
    extended_first (more ++ [] ∷ []) (layers ++ layer ∷ []) ≡ layers ++ layer ∷ []
none-push [] [] layer room same = ap (λ l. l ∷ []) (extended-nothing layer)
none-push [] (y ∷ layers) layer room same = absurd room
none-push (z ∷ more) [] layer room same = absurd room
none-push (z ∷ more) (y ∷ layers) layer room same =
    let head : extended z y ≡ y = cc in
    let tail : extended_first more layers ≡ layers = cc in
    ap (λ l. l ∷ extended_first (more ++ [] ∷ []) (layers ++ layer ∷ [])) head ∙ ap (λ ls. y ∷ ls) (none-push more layers layer room.1 tail)

-- whatever a switch answers
pub room-kept : (name : List ℕ) (on : Bool) (more : List (List FeatureFields)) (m new : MapFields) (result : Result Unit Refusal) →
    MatchResult result (λ _. switch name on m ≡ Ok new) (λ refusal. (switch name on m ≡ Err refusal) × (new ≡ m)) → AllZip HasRoomFor more m.layers → AllZip HasRoomFor more new.layers
room-kept name on more m new (Ok u) e room = room-switched name on more m new e room
room-kept name on more m new (Err refusal) (e, same) room = rw same room
