-- A step keeps the batches that each end has seen, where the batches after it begin with those before.
use Rattle.std.proofs.Common.{◌≡◌, ◌≢◌, ℕ, List, refl, subst, set, ⊎_elim}
use mathlib.Core.List.{IsPrefix}
use mathlib.Core.Option.{some}
use lib.ListN.{get_elem?}
use Rattle.atomic_table.proofs.Lists.{at_set, at_snoc}
use Rattle.batches.specs.Batch.{State}
use Rattle.crossbeam_utils.specs.Register.{Admits, TurnsAt}
use Rattle.sharing.proofs.Prefixes.{prefix_self, prefix_trans}
use Rattle.mapshare.specs.Replica.{IsMade, shape_of}
use Rattle.mapshare.specs.Seeing.{Keeps, Shows, nothing_seen}
use Rattle.mapshare.specs.declared.replica.Replica.{Replica}
use Rattle.mapshare.specs.declared.rule.View.{View}

-- the view of no batch begins all batches
nothing_begins : (v : View) (xs : List (List ℕ)) → nothing_seen ≡ v → IsPrefix v.seen xs
nothing_begins v xs e = subst (λ (u : View). IsPrefix u.seen xs) e (xs, refl)

-- a new end may come at any time
pub admits : {S : Type 0} (opening : State) → Admits (λ (x : Replica S). Keeps opening x) nothing_seen
admits opening x views h = (
  h.0,
  (λ seat v at. ⊎_elim (h.1 seat v) (λ (e : nothing_seen ≡ v). nothing_begins v x.prefix e) (at_snoc views nothing_seen v seat at)),
)

-- the view of one end becomes another that begins the batches after the step
keeps_on : {S : Type 0} (opening : State) (seat : ℕ) (w : View) (x y : Replica S) (views : List View) → Keeps opening x views → IsPrefix x.prefix y.prefix → IsMade opening (shape_of y) → IsPrefix w.seen y.prefix
    → Keeps opening y (set views seat w)
keeps_on opening seat w x y views h grows made sees = (
  made,
  (λ j u at. ⊎_elim
      (λ (t : (j ≡ seat) × (w ≡ u)). subst (λ (z : View). IsPrefix z.seen y.prefix) t.1 sees)
      (λ (t : (j ≢ seat) × (get_elem? views j ≡ some u)). prefix_trans u.seen x.prefix y.prefix (h.1 j u t.1) grows)
      (at_set views seat j w u at)),
)

-- an end sees the replica
pub sees : {S : Type 0} (opening : State) (seat : ℕ) (v : View) (x : Replica S) → TurnsAt (λ (z : Replica S). Keeps opening z) seat v x x (λ before _ replica after. Shows opening before replica after)
sees opening seat v x views h at =
    let w : View = record { seen = x.prefix } in (
      w,
      keeps_on opening seat w x x views h (prefix_self x.prefix) h.0 (prefix_self x.prefix),
      (h.0, h.1 seat v at, refl),
    )

-- a replica whose batches go on is published
pub moves : {S : Type 0} (opening : State) (seat : ℕ) (v : View) (x y : Replica S) → IsPrefix x.prefix y.prefix → (IsMade opening (shape_of x) → IsMade opening (shape_of y))
    → TurnsAt (λ (z : Replica S). Keeps opening z) seat v x y (λ _ _ _ _. Unit {0})
moves opening seat v x y grows made views h at = (
  v,
  keeps_on opening seat v x y views h grows (made h.0) (prefix_trans v.seen x.prefix y.prefix (h.1 seat v at) grows),
  tt,
)
