-- Layers that differ in what a command changes, and how other commands act on them.
use Rattle.std.proofs.Common.{◌≡◌, ◌∙◌, ◌+◌, Bool, true, false, not, if◌then◌else◌, length, map, Option, None, Some, Result, Ok, Err, refl, sym, ap, subst}
use Rattle.std.specs.Prelude.{nat_lt}
use Rattle.std.specs.Option.{option_map}
use Rattle.csvpoints.specs.Source.{records_of}
use Rattle.csvpoints.specs.Table.{table_of}
use Rattle.csvpoints.specs.declared.table.TableFields.{TableFields}
use Rattle.mapdefs.specs.Change.{emptied, extended, switched}
use Rattle.mapdefs.specs.declared.layer.LayerFields.{LayerFields}
use Rattle.mapdefs.specs.declared.limits.TheConstants.{MAX_FEATURES}
use Rattle.layers.specs.Change.{fitted, is_of_points}
use Rattle.batches.specs.Batch.{csv_fault}
use Rattle.batches.specs.declared.command.Command.{Command}
use Rattle.batches.specs.declared.command.Command.TheVariants.{On, Off, Clear, Append}
use Rattle.batches.specs.declared.fault.BatchKind.{BatchKind}
use Rattle.compaction.specs.LastChanges.{is_switch}
use Rattle.compaction.proofs.Acting.{acts, with_table}
use Rattle.compaction.proofs.Parts.{can_undo}

-- two layers are alike but for whether they are on, or but for their features
abbrev pub Differ : Bool → LayerFields → LayerFields → Type 0
Differ true layer other = other ≡ record layer { on = other.on }
Differ false layer other = other ≡ record layer { features = other.features }

-- they have one name
pub differ-name : (s : Bool) (layer other : LayerFields) → Differ s layer other → other.name ≡ layer.name
differ-name true layer other d = ap (λ (l : LayerFields). l.name) d
differ-name false layer other d = ap (λ (l : LayerFields). l.name) d

-- a command changes nothing else
table-differs : (layer : LayerFields) (t : Result TableFields BatchKind) (new : LayerFields) → with_table layer t ≡ Some new → Differ false layer new
table-differs layer (Err k) new h = absurd (cc)
table-differs layer (Ok t) new h = go (nat_lt MAX_FEATURES (length layer.features + length t.features)) refl
  where
    go : (full : Bool) → nat_lt MAX_FEATURES (length layer.features + length t.features) ≡ full → Differ false layer new
    go true e = absurd (cc (rw e at h))
    go false e =
        let is : extended (map (fitted layer.items t.columns) t.features) layer ≡ new = cc (rw e at h) in
        subst (Differ false layer) is refl

pub acts-differs : (c : Command) (layer new : LayerFields) → acts c layer ≡ Some new → Differ (is_switch c) layer new
acts-differs (On name) layer new h = let is : switched true layer ≡ new = cc in subst (Differ true layer) is refl
acts-differs (Off name) layer new h = let is : switched false layer ≡ new = cc in subst (Differ true layer) is refl
acts-differs (Clear name) layer new h = go (is_of_points layer.kind) refl
  where
    go : (t : Bool) → is_of_points layer.kind ≡ t → Differ false layer new
    go true e = let is : emptied layer ≡ new = cc (rw e at h) in subst (Differ false layer) is refl
    go false e = absurd (cc (rw e at h))
acts-differs (Append name bytes) layer new h = go (is_of_points layer.kind) refl
  where
    go : (t : Bool) → is_of_points layer.kind ≡ t → Differ false layer new
    go true e = table-differs layer (csv_fault (table_of layer.csv_x layer.csv_y MAX_FEATURES (records_of bytes))) new (rw e at h)
    go false e = absurd (cc (rw e at h))

-- what undoes another command acts on a layer as it does on one that differs in what both set
pub sets-same : (d : Command) (layer other new : LayerFields) → can_undo d ≡ true → Differ (is_switch d) layer other → acts d other ≡ Some new → acts d layer ≡ Some new
sets-same (On name) layer other new can differ h = sym (ap (acts (On name)) differ) ∙ h
sets-same (Off name) layer other new can differ h = sym (ap (acts (Off name)) differ) ∙ h
sets-same (Clear name) layer other new can differ h = sym (ap (acts (Clear name)) differ) ∙ h
sets-same (Append name bytes) layer other new can differ h = absurd (cc)

-- a layer with another one's switch, or with its features
abbrev pub mix : Bool → LayerFields → LayerFields → LayerFields
mix true other layer = record layer { on = other.on }
mix false other layer = record layer { features = other.features }

table-mixed : (other layer : LayerFields) (t : Result TableFields BatchKind) → with_table (mix true other layer) t ≡ option_map (mix true other) (with_table layer t)
table-mixed other layer (Err k) = refl
table-mixed other layer (Ok t) = go (nat_lt MAX_FEATURES (length layer.features + length t.features))
  where
    more : LayerFields → LayerFields
    more l = extended (map (fitted layer.items t.columns) t.features) l

    go : (full : Bool) → (if full then None else Some (more (mix true other layer))) ≡ option_map (mix true other) (if full then None else Some (more layer))
    go true = refl
    go false = refl

-- a command that sets the other of the two acts on both alike
pub acts-mixed : (s : Bool) (d : Command) → is_switch d ≡ not s → (other layer : LayerFields) → acts d (mix s other layer) ≡ option_map (mix s other) (acts d layer)
acts-mixed false (On name) is other layer = refl
acts-mixed false (Off name) is other layer = refl
acts-mixed false (Clear name) is other layer = absurd (cc)
acts-mixed false (Append name bytes) is other layer = absurd (cc)
acts-mixed true (On name) is other layer = absurd (cc)
acts-mixed true (Off name) is other layer = absurd (cc)
acts-mixed true (Clear name) is other layer = go (is_of_points layer.kind)
  where
    go : (t : Bool) → (if t then Some (emptied (mix true other layer)) else None) ≡ option_map (mix true other) (if t then Some (emptied layer) else None)
    go true = refl
    go false = refl
acts-mixed true (Append name bytes) is other layer = go (is_of_points layer.kind)
  where
    t : Result TableFields BatchKind
    t = csv_fault (table_of layer.csv_x layer.csv_y MAX_FEATURES (records_of bytes))

    go : (b : Bool) → (if b then with_table (mix true other layer) t else None) ≡ option_map (mix true other) (if b then with_table layer t else None)
    go true = table-mixed other layer t
    go false = refl

mixed-differ : (s : Bool) (other new : LayerFields) → Differ s new (mix s other new)
mixed-differ true other new = refl
mixed-differ false other new = refl

differ-mixed : (s : Bool) (layer other : LayerFields) → Differ s layer other → other ≡ mix s other layer
differ-mixed true layer other d = d
differ-mixed false layer other d = d

pub sets-other : (s : Bool) (d : Command) (layer other new : LayerFields) → is_switch d ≡ not s → Differ s layer other → acts d other ≡ Some new
    → (same : LayerFields) × (acts d layer ≡ Some same) × Differ s same new
sets-other s d layer other new is differ h = go (acts d layer) refl (sym (acts-mixed s d is other layer) ∙ sym (ap (acts d) (differ-mixed s layer other differ)) ∙ h)
  where
    go : (o : Option LayerFields) → acts d layer ≡ o → option_map (mix s other) (acts d layer) ≡ Some new → (same : LayerFields) × (acts d layer ≡ Some same) × Differ s same new
    go None e k = absurd (cc (rw e at k))
    go (Some same) e k =
        let mixed : mix s other same ≡ new = cc (rw e at k) in
        (same, e, subst (Differ s same) mixed (mixed-differ s other same))
