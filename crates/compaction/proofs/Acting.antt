-- A command changes the layer with its name, and no other.
use Rattle.std.proofs.Common.{◌≡◌, ◌⊎◌, ◌∙◌, inl, inr, ℕ, suc, ◌+◌, Bool, true, false, if◌then◌else◌, List, [], ◌∷◌, length, map, Option, None, Some, Result, Ok, Err, refl, ap, arith}
use Rattle.std.proofs.lemmas.Bool.Decides.{nat_tests}
use Rattle.std.specs.Prelude.{nat_lt, position, slice_get, slice_set}
use Rattle.std.specs.List.{position_or_len}
use Rattle.std.specs.Option.{option_map, option_map_or}
use Rattle.csvpoints.specs.Source.{records_of}
use Rattle.csvpoints.specs.Table.{table_of}
use Rattle.csvpoints.specs.declared.table.TableFields.{TableFields}
use Rattle.mapdefs.specs.Change.{emptied, extended, switched, with_layer}
use Rattle.mapdefs.specs.Name.{index_of, is_same_name}
use Rattle.mapdefs.specs.declared.layer.LayerFields.{LayerFields}
use Rattle.mapdefs.specs.declared.limits.TheConstants.{MAX_FEATURES}
use Rattle.mapdefs.specs.declared.map.MapFields.{MapFields}
use Rattle.layers.specs.Change.{append_at, appended, found, found_points, fitted, is_of_points, layer_at, named, of_points}
use Rattle.mapdefs.specs.Outcome.{and_then}
use Rattle.layers.specs.declared.fault.Refusal.{Refusal}
use Rattle.layers.specs.declared.fault.Refusal.TheVariants.{UnknownLayer, NotPoints, Full}
use Rattle.batches.specs.Batch.{applied, csv_fault, refusal_fault}
use Rattle.batches.specs.declared.command.Command.{Command}
use Rattle.batches.specs.declared.command.Command.TheVariants.{On, Off, Clear, Append}
use Rattle.batches.specs.declared.fault.BatchKind.{BatchKind}
use Rattle.batches.specs.declared.fault.BatchKind.TheVariants.{Refused}
use Rattle.compaction.specs.LastChanges.{name_of}

-- the first layer with a name
abbrev pub first_named : List ℕ → List LayerFields → Option LayerFields
first_named name [] = None
first_named name (layer ∷ layers) = if is_same_name layer.name name then Some layer else first_named name layers

-- the layers with another one in its place
abbrev pub put : List ℕ → LayerFields → List LayerFields → List LayerFields
put name new [] = []
put name new (layer ∷ layers) = if is_same_name layer.name name then new ∷ layers else layer ∷ put name new layers

-- the layer with the rows of a table, if it has room for them
abbrev pub with_table : LayerFields → Result TableFields BatchKind → Option LayerFields
with_table layer (Err kind) = None
with_table layer (Ok table) =
    if nat_lt MAX_FEATURES (length layer.features + length table.features) then None
    else Some (extended (map (fitted layer.items table.columns) table.features) layer)

-- the layer after a command, if it can be applied
abbrev pub acts : Command → LayerFields → Option LayerFields
acts (On name) layer = Some (switched true layer)
acts (Off name) layer = Some (switched false layer)
acts (Clear name) layer = if is_of_points layer.kind then Some (emptied layer) else None
acts (Append name bytes) layer =
    if is_of_points layer.kind then with_table layer (csv_fault (table_of layer.csv_x layer.csv_y MAX_FEATURES (records_of bytes))) else None

abbrev pub put_option : List ℕ → List LayerFields → Option LayerFields → Option (List LayerFields)
put_option name layers None = None
put_option name layers (Some new) = Some (put name new layers)

-- the layers after a command
abbrev pub act_on : Command → List LayerFields → Option LayerFields → Option (List LayerFields)
act_on c layers None = None
act_on c layers (Some layer) = put_option (name_of c) layers (acts c layer)

abbrev pub act : Command → List LayerFields → Option (List LayerFields)
act c layers = act_on c layers (first_named (name_of c) layers)

-- the index of the first that passes, one element further
pub position-next : {A : Type 0} (p : A → Bool) (x : A) (xs : List A) → position p (x ∷ xs) ≡ (if p x then Some 0 else option_map suc (position p xs))
position-next p x xs = go (p x) (nat_lt (position_or_len p xs) (length xs)) refl refl
  where
    n : ℕ
    n = position_or_len p xs

    go : (t u : Bool) → p x ≡ t → nat_lt n (length xs) ≡ u → position p (x ∷ xs) ≡ (if p x then Some 0 else option_map suc (position p xs))
    go true u h k = let there : nat_lt 0 (suc (length xs)) ≡ true = grind (arith, nat_tests) in rw (h, there) refl
    go false true h k =
        let more : nat_lt (1 + n) (suc (length xs)) ≡ true = grind (arith, nat_tests) in
        let is : 1 + n ≡ suc n = omega arith in
        rw (h, k, more, is) refl
    go false false h k =
        let more : nat_lt (1 + n) (suc (length xs)) ≡ false = grind (arith, nat_tests) in
        rw (h, k, more) refl

-- the layer with a name is the one at its index
pub record IsAt (name : List ℕ) (layers : List LayerFields) (i : ℕ) (layer : LayerFields) : Type 0 where
  pub index : index_of name layers ≡ Some i
  pub first : first_named name layers ≡ Some layer
  pub here : slice_get layers i ≡ Some layer
  pub set : (new : LayerFields) → slice_set layers i new ≡ put name new layers

-- there is no layer with a name
pub record IsMissing (name : List ℕ) (layers : List LayerFields) : Type 0 where
  pub index : index_of name layers ≡ None
  pub first : first_named name layers ≡ None

pub found_at : (name : List ℕ) (layers : List LayerFields) → IsMissing name layers ⊎ ((i : ℕ) × (layer : LayerFields) × IsAt name layers i layer)
found_at name [] = inl (record { index = refl; first = refl })
found_at name (layer ∷ layers) = go (is_same_name layer.name name) refl (found_at name layers)
  where
    next : index_of name (layer ∷ layers) ≡ (if is_same_name layer.name name then Some 0 else option_map suc (index_of name layers))
    next = position-next (λ (l : LayerFields). is_same_name l.name name) layer layers

    go : (t : Bool) → is_same_name layer.name name ≡ t
        → IsMissing name layers ⊎ ((i : ℕ) × (l : LayerFields) × IsAt name layers i l)
        → IsMissing name (layer ∷ layers) ⊎ ((i : ℕ) × (l : LayerFields) × IsAt name (layer ∷ layers) i l)
    go true h others = inr (
      0,
      layer,
      record {
        index = next ∙ rw h refl;
        first = rw h refl;
        here = refl;
        set = λ new. rw h refl;
      },
    )
    go false h (inl none) = inl (record { index = next ∙ rw (h, none.index) refl; first = rw h none.first })
    go false h (inr (i, l, at)) = inr (
      suc i,
      l,
      record {
        index = next ∙ rw (h, at.index) refl;
        first = rw h at.first;
        here = at.here;
        set = λ new. rw h (ap (λ (ls : List LayerFields). layer ∷ ls) (at.set new));
      },
    )

-- a command that can be applied, or not, acts on the layers alone
pub record Applies (c : Command) (m : MapFields) (layers : List LayerFields) : Type 0 where
  pub acted : act c m.layers ≡ Some layers
  pub done : applied c m ≡ Ok (record m { layers = layers })

pub record Fails (c : Command) (m : MapFields) : Type 0 where
  pub kind : BatchKind
  pub acted : act c m.layers ≡ None
  pub refused : applied c m ≡ Err kind

-- the map with the layer at its index changed is the one with it put in its place
with-layer : (m : MapFields) (name : List ℕ) (i : ℕ) (layer : LayerFields) → IsAt name m.layers i layer → (change : LayerFields → LayerFields)
    → with_layer i change m ≡ record m { layers = put name (change layer) m.layers }
with-layer m name i layer at change =
    ap (λ (ls : List LayerFields). record m { layers = ls })
    (ap (λ (o : Option LayerFields). option_map_or (λ (l : LayerFields). slice_set m.layers i (change l)) o m.layers) at.here ∙ at.set (change layer))

found-missing : (name : List ℕ) (m : MapFields) → IsMissing name m.layers → found name m ≡ Err UnknownLayer
found-missing name m none = ap (λ (o : Option ℕ). named o m.layers) none.index

found-here : (name : List ℕ) (m : MapFields) (i : ℕ) (layer : LayerFields) → IsAt name m.layers i layer → found name m ≡ Ok (i, layer)
found-here name m i layer at =
    ap (λ (o : Option ℕ). named o m.layers) at.index ∙ ap (layer_at i) at.here

-- the layer with the name of a command, if there is one
abbrev pub Acts : Command → MapFields → Type 0
Acts c m = ((layers : List LayerFields) × Applies c m layers) ⊎ Fails c m

switch-acts : (c : Command) (on : Bool) (m : MapFields) → ((layer : LayerFields) → acts c layer ≡ Some (switched on layer))
    → applied c m ≡ refusal_fault (and_then (found (name_of c) m) (λ f. Ok (with_layer f.0 (switched on) m))) → Acts c m
switch-acts c on m does is = go (found_at (name_of c) m.layers)
  where
    go : IsMissing (name_of c) m.layers ⊎ ((i : ℕ) × (layer : LayerFields) × IsAt (name_of c) m.layers i layer) → Acts c m
    go (inl none) = inr (record {
      kind = Refused UnknownLayer;
      acted = ap (act_on c m.layers) none.first;
      refused = is ∙ ap (λ (r : Result (ℕ × LayerFields) Refusal). refusal_fault (and_then r (λ f. Ok (with_layer f.0 (switched on) m)))) (found-missing (name_of c) m none);
    })
    go (inr (i, layer, at)) = inl (
      put (name_of c) (switched on layer) m.layers,
      record {
        acted = ap (act_on c m.layers) at.first ∙ ap (put_option (name_of c) m.layers) (does layer);
        done = is
            ∙ ap (λ (r : Result (ℕ × LayerFields) Refusal). refusal_fault (and_then r (λ f. Ok (with_layer f.0 (switched on) m)))) (found-here (name_of c) m i layer at)
            ∙ ap (λ (n : MapFields). Ok n) (with-layer m (name_of c) i layer at (switched on));
      },
    )

-- the layer of points with a name
found-points : (name : List ℕ) (m : MapFields) (i : ℕ) (layer : LayerFields) → IsAt name m.layers i layer → is_of_points layer.kind ≡ true → found_points name m ≡ Ok (i, layer)
found-points name m i layer at points =
    ap (λ (r : Result (ℕ × LayerFields) Refusal). and_then r of_points) (found-here name m i layer at)
    ∙ ap (λ (t : Bool). if t then Ok (i, layer) else Err NotPoints) points

found-others : (name : List ℕ) (m : MapFields) (i : ℕ) (layer : LayerFields) → IsAt name m.layers i layer → is_of_points layer.kind ≡ false → found_points name m ≡ Err NotPoints
found-others name m i layer at others =
    ap (λ (r : Result (ℕ × LayerFields) Refusal). and_then r of_points) (found-here name m i layer at)
    ∙ ap (λ (t : Bool). if t then Ok (i, layer) else Err NotPoints) others

found-none : (name : List ℕ) (m : MapFields) → IsMissing name m.layers → found_points name m ≡ Err UnknownLayer
found-none name m none = ap (λ (r : Result (ℕ × LayerFields) Refusal). and_then r of_points) (found-missing name m none)

-- an effect on the layer of points that is found
abbrev pub cleared_as : MapFields → Result (ℕ × LayerFields) Refusal → Result MapFields BatchKind
cleared_as m r = refusal_fault (and_then r (λ f. Ok (with_layer f.0 emptied m)))

clear-acts : (name : List ℕ) (m : MapFields) → Acts (Clear name) m
clear-acts name m = go (found_at name m.layers)
  where
    by : (i : ℕ) (layer : LayerFields) → IsAt name m.layers i layer → (t : Bool) → is_of_points layer.kind ≡ t → Acts (Clear name) m
    by i layer at true points = inl (
      put name (emptied layer) m.layers,
      record {
        acted = ap (act_on (Clear name) m.layers) at.first ∙ ap (λ (t : Bool). put_option name m.layers (if t then Some (emptied layer) else None)) points;
        done = ap (cleared_as m) (found-points name m i layer at points) ∙ ap (λ (n : MapFields). Ok n) (with-layer m name i layer at emptied);
      },
    )
    by i layer at false others = inr (record {
      kind = Refused NotPoints;
      acted = ap (act_on (Clear name) m.layers) at.first ∙ ap (λ (t : Bool). put_option name m.layers (if t then Some (emptied layer) else None)) others;
      refused = ap (cleared_as m) (found-others name m i layer at others);
    })

    go : IsMissing name m.layers ⊎ ((i : ℕ) × (layer : LayerFields) × IsAt name m.layers i layer) → Acts (Clear name) m
    go (inl none) = inr (record {
      kind = Refused UnknownLayer;
      acted = ap (act_on (Clear name) m.layers) none.first;
      refused = ap (cleared_as m) (found-none name m none);
    })
    go (inr (i, layer, at)) = by i layer at (is_of_points layer.kind) refl

module _ (name bytes : List ℕ) (m : MapFields) where
  -- the table of a layer
  abbrev table : LayerFields → Result TableFields BatchKind
  table layer = csv_fault (table_of layer.csv_x layer.csv_y MAX_FEATURES (records_of bytes))

  abbrev appended_by : ℕ × LayerFields → Result TableFields BatchKind → Result MapFields BatchKind
  appended_by f t = and_then t (λ table. refusal_fault (append_at f.0 table m))

  abbrev appended_as : Result (ℕ × LayerFields) Refusal → Result MapFields BatchKind
  appended_as r = and_then (refusal_fault r) (λ f. appended_by f (table f.1))

  module _ (i : ℕ) (layer : LayerFields) (at : IsAt name m.layers i layer) where
    abbrev full_as : TableFields → Bool → Result MapFields BatchKind
    full_as t full = refusal_fault (if full then Err Full else Ok (with_layer i (extended (map (fitted layer.items t.columns) t.features)) m))

    append-at : (t : TableFields) → is_of_points layer.kind ≡ true → refusal_fault (append_at i t m) ≡ full_as t (nat_lt MAX_FEATURES (length layer.features + length t.features))
    append-at t points =
        ap (λ (o : Option LayerFields). refusal_fault (and_then (and_then (layer_at i o) of_points) (appended t m))) at.here
        ∙ ap (λ (b : Bool). refusal_fault (and_then (if b then Ok (i, layer) else Err NotPoints) (appended t m))) points

    acted-as : (t : Result TableFields BatchKind) → is_of_points layer.kind ≡ true → table layer ≡ t → act (Append name bytes) m.layers ≡ put_option name m.layers (with_table layer t)
    acted-as t points is =
        ap (act_on (Append name bytes) m.layers) at.first
        ∙ ap (λ (b : Bool). put_option name m.layers (if b then with_table layer (table layer) else None)) points
        ∙ ap (λ (r : Result TableFields BatchKind). put_option name m.layers (with_table layer r)) is

    applied-as : (t : Result TableFields BatchKind) → is_of_points layer.kind ≡ true → table layer ≡ t → applied (Append name bytes) m ≡ appended_by (i, layer) t
    applied-as t points is = ap appended_as (found-points name m i layer at points) ∙ ap (appended_by (i, layer)) is

    with-room : (t : TableFields) (full : Bool) → is_of_points layer.kind ≡ true → table layer ≡ Ok t → nat_lt MAX_FEATURES (length layer.features + length t.features) ≡ full → Acts (Append name bytes) m
    with-room t true points is no-room = inr (record {
      kind = Refused Full;
      acted = acted-as (Ok t) points is ∙ ap (λ (b : Bool). put_option name m.layers (if b then None else Some (extended (map (fitted layer.items t.columns) t.features) layer))) no-room;
      refused = applied-as (Ok t) points is ∙ append-at t points ∙ ap (full_as t) no-room;
    })
    with-room t false points is room = inl (
      put name (extended (map (fitted layer.items t.columns) t.features) layer) m.layers,
      record {
        acted = acted-as (Ok t) points is ∙ ap (λ (b : Bool). put_option name m.layers (if b then None else Some (extended (map (fitted layer.items t.columns) t.features) layer))) room;
        done = applied-as (Ok t) points is ∙ append-at t points ∙ ap (full_as t) room ∙ ap (λ (n : MapFields). Ok n) (with-layer m name i layer at (extended (map (fitted layer.items t.columns) t.features)));
      },
    )

    with-points : (t : Result TableFields BatchKind) → is_of_points layer.kind ≡ true → table layer ≡ t → Acts (Append name bytes) m
    with-points (Err k) points is = inr (record { kind = k; acted = acted-as (Err k) points is; refused = applied-as (Err k) points is })
    with-points (Ok t) points is = with-room t (nat_lt MAX_FEATURES (length layer.features + length t.features)) points is refl

    by-kind : (t : Bool) → is_of_points layer.kind ≡ t → Acts (Append name bytes) m
    by-kind true points = with-points (table layer) points refl
    by-kind false others = inr (record {
      kind = Refused NotPoints;
      acted = ap (act_on (Append name bytes) m.layers) at.first ∙ ap (λ (b : Bool). put_option name m.layers (if b then with_table layer (table layer) else None)) others;
      refused = ap appended_as (found-others name m i layer at others);
    })

  append-acts : Acts (Append name bytes) m
  append-acts = go (found_at name m.layers)
    where
      go : IsMissing name m.layers ⊎ ((i : ℕ) × (layer : LayerFields) × IsAt name m.layers i layer) → Acts (Append name bytes) m
      go (inl none) = inr (record {
        kind = Refused UnknownLayer;
        acted = ap (act_on (Append name bytes) m.layers) none.first;
        refused = ap appended_as (found-none name m none);
      })
      go (inr (i, layer, at)) = by-kind i layer at (is_of_points layer.kind) refl

pub acts_or_fails : (c : Command) (m : MapFields) → Acts c m
acts_or_fails (On name) m = switch-acts (On name) true m (λ layer. refl) refl
acts_or_fails (Off name) m = switch-acts (Off name) false m (λ layer. refl) refl
acts_or_fails (Clear name) m = clear-acts name m
acts_or_fails (Append name bytes) m = append-acts name bytes m
