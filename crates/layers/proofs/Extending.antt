-- Layers that are extended one after another by the features that wait beside them.
use Rattle.std.proofs.Common.{◌≡◌, ◌∙◌, ℕ, ◌+◌, List, [], ◌∷◌, ◌++◌, length, Some, refl, sym, ap, subst, arith}
use Rattle.std.proofs.lemmas.List.{append_assoc, length-append}
use Rattle.std.specs.List.{AllZip, slice_get}
use Rattle.mapdefs.specs.Change.{CanTakeAt, HasRoomFor, changed_at, extended, with_layer}
use Rattle.mapdefs.specs.declared.feature.FeatureFields.{FeatureFields}
use Rattle.mapdefs.specs.declared.layer.LayerFields.{LayerFields}
use Rattle.mapdefs.specs.declared.map.MapFields.{MapFields}
use Rattle.layers.specs.Draft.{extended_first, with_more}
use Rattle.layers.proofs.Drafting.{changed-behind}

-- the map, with a list of features appended to each layer from an index on
abbrev pub extend_from : ℕ → List (List FeatureFields) → MapFields → MapFields
extend_from index [] m = m
extend_from index (x ∷ more) m = extend_from (index + 1) more (with_layer index (extended x) m)

-- each of these layers can take its list
abbrev pub CanTakeFrom : ℕ → List (List FeatureFields) → MapFields → Type 0
CanTakeFrom index [] m = Unit {0}
CanTakeFrom index (x ∷ more) m = CanTakeAt x index m.layers × CanTakeFrom (index + 1) more (with_layer index (extended x) m)

-- the layer after some others
get-behind : (done rest : List LayerFields) (y : LayerFields) → slice_get (done ++ y ∷ rest) (length done) ≡ Some y
get-behind [] rest y = refl
get-behind (d ∷ done) rest y = get-behind done rest y

change-here : (change : LayerFields → LayerFields) (done rest : List LayerFields) (y : LayerFields) →
    changed_at (length done) change (done ++ y ∷ rest) ≡ (done ++ change y ∷ []) ++ rest
change-here change [] rest y = refl
change-here change (d ∷ done) rest y = changed-behind (length done) change d (done ++ y ∷ rest) ∙ ap (λ ls. d ∷ ls) (change-here change done rest y)

-- after the last all have theirs
all-extended : (m : MapFields) (more : List (List FeatureFields)) (done rest : List LayerFields) → AllZip HasRoomFor more rest →
    extend_from (length done) more (record m { layers = done ++ rest }) ≡ record m { layers = done ++ extended_first more rest }
all-extended m [] done rest room = refl
all-extended m (x ∷ more) done [] room = absurd room
all-extended m (x ∷ more) done (y ∷ rest) room =
    let next : List LayerFields = done ++ extended x y ∷ [] in
    let count : length done + 1 ≡ length next = omega (arith, length-append done (extended x y ∷ [])) in
    ap (λ ls. extend_from (length done + 1) more (record m { layers = ls })) (change-here (extended x) done rest y)
    ∙ (ap (λ n. extend_from n more (record m { layers = next ++ rest })) count
    ∙ (all-extended m more next rest room.1
    ∙ ap (λ ls. record m { layers = ls }) (append_assoc done (extended x y ∷ []) (extended_first more rest))))

pub from-first : (more : List (List FeatureFields)) (m : MapFields) → AllZip HasRoomFor more m.layers → extend_from 0 more m ≡ with_more more m
from-first more m room = all-extended m more [] m.layers room

-- and each can take it
all-can-take : (m : MapFields) (more : List (List FeatureFields)) (done rest : List LayerFields) → AllZip HasRoomFor more rest →
    CanTakeFrom (length done) more (record m { layers = done ++ rest })
all-can-take m [] done rest room = tt
all-can-take m (x ∷ more) done [] room = absurd room
all-can-take m (x ∷ more) done (y ∷ rest) room =
    let next : List LayerFields = done ++ extended x y ∷ [] in
    let count : length next ≡ length done + 1 = omega (arith, length-append done (extended x y ∷ [])) in (
      rw (get-behind done rest y) room.0,
      subst (λ ls. CanTakeFrom (length done + 1) more (record m { layers = ls })) (sym (change-here (extended x) done rest y))
          (subst (λ n. CanTakeFrom n more (record m { layers = next ++ rest })) count (all-can-take m more next rest room.1)),
    )

pub take-first : (more : List (List FeatureFields)) (m : MapFields) → AllZip HasRoomFor more m.layers → CanTakeFrom 0 more m
take-first more m room = all-can-take m more [] m.layers room
