-- The tables of layers are read one after the other, and the layers made with them.
use Rattle.std.proofs.Common.{◌≡◌, ℕ, suc, ◌+◌, ◌<◌, ◌≤◌, List, [], ◌∷◌, ◌++◌, length, get_or, take, drop, drop-cons, add-one, refl, ap, arith}
use Rattle.std.specs.Prelude.{Option, None, Some, Result, Ok, Err, zip}
use Rattle.std.proofs.lemmas.List.{append_assoc, take_more}
use Rattle.csvpoints.specs.declared.table.TableFields.{TableFields}
use Rattle.mapwords.specs.declared.fault.Fault.{Fault}
use Rattle.maptree.specs.declared.tree.LayerTree.{LayerTree}
use Rattle.mapdefs.specs.Outcome.{and_then}
use Rattle.mapparse.specs.declared.files.FileBytes.{FileBytes}
use Rattle.mapdefs.specs.declared.limits.TheConstants.{MAX_FEATURES}
use Rattle.mapparse.specs.Tables.{table_given, tables_of, rows_of, HasRoom, HaveRoom}

-- one more table is read
module _ (files : List FileBytes) (done : List (Option TableFields)) where
  joined : (table : Option TableFields) (r : Result (List (Option TableFields)) Fault) →
      and_then r (λ more. Ok ((done ++ table ∷ []) ++ more)) ≡ and_then (and_then r (λ others. Ok (table ∷ others))) (λ more. Ok (done ++ more))
  joined table (Ok others) = ap (λ x. Ok x) (append_assoc done (table ∷ []) others)
  joined table (Err f) = refl

  pub one-more : (layers : List LayerTree) (i : ℕ) (layer : LayerTree) (table : Option TableFields) → i < length layers → layer ≡ get_or layers i layer →
      table_given files layer ≡ Ok table →
      and_then (tables_of files (drop (i + 1) layers)) (λ more. Ok ((done ++ table ∷ []) ++ more))
      ≡ and_then (tables_of files (drop i layers)) (λ more. Ok (done ++ more))
  one-more layers i layer table below e is =
      rw (add-one, drop-cons layers i layer below, ← e, is) (joined table (tables_of files (drop (suc i) layers)))

  -- none is read for a layer with a fault
  pub one-fault : (layers : List LayerTree) (i : ℕ) (layer : LayerTree) (f : Fault) → i < length layers → layer ≡ get_or layers i layer →
      table_given files layer ≡ Err f → and_then (tables_of files (drop i layers)) (λ more. Ok (done ++ more)) ≡ Err f
  one-fault layers i layer f below e is = rw (drop-cons layers i layer below, ← e, is) refl

-- and there is room for it
room-push : (layers : List LayerTree) (tables : List (Option TableFields)) (layer : LayerTree) (table : Option TableFields) →
    HaveRoom layers tables → HasRoom layer table → HaveRoom (layers ++ layer ∷ []) (tables ++ table ∷ [])
room-push [] [] layer table have fits = (fits, tt)
room-push [] (t ∷ ts) layer table have fits = absurd have
room-push (l ∷ ls) [] layer table have fits = absurd have
room-push (l ∷ ls) (t ∷ ts) layer table have fits = (have.0, room-push ls ts layer table have.1 fits)

pub room-more : (layers : List LayerTree) (tables : List (Option TableFields)) (i : ℕ) (layer : LayerTree) (table : Option TableFields) →
    i < length layers → layer ≡ get_or layers i layer → HaveRoom (take i layers) tables → HasRoom layer table → HaveRoom (take (i + 1) layers) (tables ++ table ∷ [])
room-more layers tables i layer table below e have fits =
    rw (take_more layers i layer below, ← e) (room-push (take i layers) tables layer table have fits)

-- there are no more pairs than layers
pub zip-at_most : (layers : List LayerTree) (tables : List (Option TableFields)) → length (zip layers tables) ≤ length layers
zip-at_most [] tables = omega arith
zip-at_most (layer ∷ layers) [] = omega arith
zip-at_most (layer ∷ layers) (table ∷ tables) = let more = zip-at_most layers tables in omega (arith, more)

-- a layer has room for the rows of its table after the features that it is given
pub room-fits : (layer : LayerTree) (table : Option TableFields) → length layer.body.features ≤ MAX_FEATURES → HasRoom layer table → length layer.body.features + length (rows_of table) ≤ MAX_FEATURES
room-fits layer None few room = omega (arith, few)
room-fits layer (Some t) few room = room
