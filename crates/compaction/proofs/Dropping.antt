-- Commands that later ones undo are left out, and the layers after all of them stay the same.
use Rattle.std.proofs.Common.{◌≡◌, ◌∙◌, ℕ, Bool, true, false, not, if◌then◌else◌, List, [], ◌∷◌, Option, None, Some, refl, sym, ap, subst}
use Rattle.std.proofs.lemmas.Bool.{and_parts}
use Rattle.std.specs.Bool.{beq}
use Rattle.std.specs.Option.{option_and_then}
use Rattle.mapdefs.specs.Name.{is_same_name}
use Rattle.mapdefs.specs.declared.layer.LayerFields.{LayerFields}
use Rattle.batches.specs.declared.command.Command.{Command}
use Rattle.compaction.specs.Undone.{is_undone, undoes}
use Rattle.compaction.specs.LastChanges.{is_switch, name_of}
use Rattle.compaction.proofs.Acting.{act, act_on, acts, first_named, put, put_option}
use Rattle.compaction.proofs.Differing.{Differ, acts-differs, differ-name, sets-other, sets-same}
use Rattle.compaction.proofs.Parts.{alike_later, alike_name, alike_switch, are_alike, bool_apart, can_undo, name-turned, same-name, undoes_parts, undoing_alike}
use Rattle.compaction.proofs.Placing.{named-name, put-again, put-both, put-found, put-other}

-- the layers after some commands
abbrev pub runs : List Command → List LayerFields → Option (List LayerFields)
runs [] layers = Some layers
runs (c ∷ cs) layers = option_and_then (runs cs) (act c layers)

-- the commands that no later one undoes
abbrev pub left : List Command → List Command
left [] = []
left (c ∷ cs) = if is_undone cs c then left cs else c ∷ left cs

-- what a command did
pub record Acted (c : Command) (layers new : List LayerFields) : Type 0 where
  pub layer : LayerFields
  pub changed : LayerFields
  pub first : first_named (name_of c) layers ≡ Some layer
  pub done : acts c layer ≡ Some changed
  pub is : new ≡ put (name_of c) changed layers

pub act-did : (c : Command) (layers new : List LayerFields) → act c layers ≡ Some new → Acted c layers new
act-did c layers new h = go (first_named (name_of c) layers) refl h
  where
    by : (layer : LayerFields) → first_named (name_of c) layers ≡ Some layer → (o : Option LayerFields) → acts c layer ≡ o → put_option (name_of c) layers o ≡ Some new → Acted c layers new
    by layer e None f k = absurd (cc)
    by layer e (Some changed) f k = record { layer = layer; changed = changed; first = e; done = f; is = cc }

    go : (o : Option LayerFields) → first_named (name_of c) layers ≡ o → act_on c layers o ≡ Some new → Acted c layers new
    go None e k = absurd (cc)
    go (Some layer) e k = by layer e (acts c layer) refl k

pub act-does : (c : Command) (layers : List LayerFields) (layer changed : LayerFields) → first_named (name_of c) layers ≡ Some layer → acts c layer ≡ Some changed
    → act c layers ≡ Some (put (name_of c) changed layers)
act-does c layers layer changed e f = ap (act_on c layers) e ∙ ap (put_option (name_of c) layers) f

-- layers that differ in what a command changes of its layer
pub record Apart (c : Command) (layers others : List LayerFields) : Type 0 where
  pub layer : LayerFields
  pub other : LayerFields
  pub first : first_named (name_of c) layers ≡ Some layer
  pub differ : Differ (is_switch c) layer other
  pub is : others ≡ put (name_of c) other layers

acted-apart : (c : Command) (layers new : List LayerFields) → act c layers ≡ Some new → Apart c layers new
acted-apart c layers new h =
    let a = act-did c layers new h in
    record { layer = a.layer; other = a.changed; first = a.first; differ = acts-differs c a.layer a.changed a.done; is = a.is }

-- it changed the layer with its name
acted-called : (d : Command) (layers new : List LayerFields) (a : Acted d layers new) → is_same_name a.changed.name (name_of d) ≡ true
acted-called d layers new a =
    subst (λ (x : List ℕ). is_same_name x (name_of d) ≡ true) (sym (differ-name (is_switch d) a.layer a.changed (acts-differs d a.layer a.changed a.done)))
    (named-name (name_of d) layers a.layer a.first)

module _ (c : Command) (layers others : List LayerFields) (apart : Apart c layers others) where
  abbrev name : List ℕ
  name = name_of c

  called : is_same_name apart.layer.name name ≡ true
  called = named-name name layers apart.layer apart.first

  other-called : is_same_name apart.other.name name ≡ true
  other-called = subst (λ (x : List ℕ). is_same_name x name ≡ true) (sym (differ-name (is_switch c) apart.layer apart.other apart.differ)) called

  other-first : first_named name others ≡ Some apart.other
  other-first = ap (first_named name) apart.is ∙ put-found name apart.other other-called layers apart.layer apart.first

  -- a command of the same layer acts on the one that differs
  module _ (d : Command) (new : List LayerFields) (is : name_of d ≡ name) (a : Acted d others new) where
    acted-other : acts d apart.other ≡ Some a.changed
    acted-other =
        let found : first_named name others ≡ Some a.layer = subst (λ (x : List ℕ). first_named x others ≡ Some a.layer) is a.first in
        let same : apart.other ≡ a.layer = cc (other-first, found) in
        subst (λ (l : LayerFields). acts d l ≡ Some a.changed) (sym same) a.done

    changed-called : is_same_name a.changed.name name ≡ true
    changed-called = subst (λ (x : List ℕ). is_same_name a.changed.name x ≡ true) is (acted-called d others new a)

    new-is : new ≡ put name a.changed layers
    new-is =
        a.is ∙ ap (λ (x : List ℕ). put x a.changed others) is ∙ ap (put name a.changed) apart.is
        ∙ put-again name a.changed changed-called apart.other other-called layers

    does-here : (changed : LayerFields) → acts d apart.layer ≡ Some changed → act d layers ≡ Some (put name changed layers)
    does-here changed done =
        act-does d layers apart.layer changed (subst (λ (x : List ℕ). first_named x layers ≡ Some apart.layer) (sym is) apart.first) done
        ∙ ap (λ (x : List ℕ). Some (put x changed layers)) is

  -- a command that undoes it brings them together
  joins : (d : Command) (new : List LayerFields) → undoes d c ≡ true → act d others ≡ Some new → act d layers ≡ Some new
  joins d new undo h =
      let alike = undoing_alike d c undo in
      let is = alike_name d c alike in
      let a = act-did d others new h in
      let can : can_undo d ≡ true = (and_parts (can_undo d) (are_alike d c) (sym (undoes_parts d c) ∙ undo)).0 in
      let differ : Differ (is_switch d) apart.layer apart.other = subst (λ (s : Bool). Differ s apart.layer apart.other) (sym (alike_switch d c alike)) apart.differ in
      does-here d new is a a.changed (sets-same d apart.layer apart.other a.changed can differ (acted-other d new is a))
      ∙ ap (λ (ls : List LayerFields). Some ls) (sym (new-is d new is a))

  -- another command of the same layer keeps them apart
  step-same : (d : Command) (new : List LayerFields) → name_of d ≡ name → is_switch d ≡ not (is_switch c) → act d others ≡ Some new
      → (same : List LayerFields) × (act d layers ≡ Some same) × Apart c same new
  step-same d new is sets h =
      let a = act-did d others new h in
      let both = sets-other (is_switch c) d apart.layer apart.other a.changed sets apart.differ (acted-other d new is a) in
      by a both.0 (both.1, both.2)
    where
      by : (a : Acted d others new) (same : LayerFields) → (acts d apart.layer ≡ Some same) × Differ (is_switch c) same a.changed
          → (ls : List LayerFields) × (act d layers ≡ Some ls) × Apart c ls new
      by a same (done, differ) =
          let same_called : is_same_name same.name name ≡ true =
          subst (λ (x : List ℕ). is_same_name x name ≡ true) (differ-name (is_switch c) same a.changed differ) (changed-called d new is a) in (
            put name same layers,
            does-here d new is a same done,
            record {
              layer = same;
              other = a.changed;
              first = put-found name same same_called layers apart.layer apart.first;
              differ = differ;
              is = new-is d new is a ∙ sym (put-again name a.changed (changed-called d new is a) same same_called layers);
            },
          )

  -- so does a command of another layer
  step-other : (d : Command) (new : List LayerFields) → is_same_name name (name_of d) ≡ false → act d others ≡ Some new
      → (same : List LayerFields) × (act d layers ≡ Some same) × Apart c same new
  step-other d new not_same h =
      let a = act-did d others new h in
      let o = name_of d in
      let turned : is_same_name o name ≡ false = name-turned o name ∙ not_same in
      let is_called = acted-called d others new a in
      let found : first_named o layers ≡ Some a.layer =
      sym (put-other name apart.other other-called o not_same layers) ∙ sym (ap (first_named o) apart.is) ∙ a.first in
      let not_called : is_same_name a.changed.name name ≡ false =
      subst (λ (x : List ℕ). is_same_name x name ≡ false) (sym (same-name a.changed.name o is_called)) turned in (
        put o a.changed layers,
        act-does d layers a.layer a.changed found a.done,
        record {
          layer = apart.layer;
          other = apart.other;
          first = put-other o a.changed is_called name turned layers ∙ apart.first;
          differ = apart.differ;
          is = a.is ∙ ap (put o a.changed) apart.is ∙ put-both name apart.other other-called o not_same a.changed is_called not_called layers;
        },
      )

-- one more command before those of which it is known that an undone one may be left out
module _ (c d : Command) (ds : List Command) (last : List LayerFields)
    (others_may : (layers others : List LayerFields) → Apart c layers others → is_undone ds c ≡ true → runs (left ds) others ≡ Some last → runs (left ds) layers ≡ Some last)
    (layers others : List LayerFields) (apart : Apart c layers others) (undone : is_undone (d ∷ ds) c ≡ true) where
  -- where it undoes nothing, a later one does
  later_does : undoes d c ≡ false → is_undone ds c ≡ true
  later_does f = rw f at undone

  undone_later : is_undone ds d ≡ true → (u : Bool) → undoes d c ≡ u → is_undone ds c ≡ true
  undone_later e true f = sym (alike_later d c (undoing_alike d c f) ds) ∙ e
  undone_later e false f = later_does f

  module _ (new : List LayerFields) (acted : act d others ≡ Some new) (run : runs (left ds) new ≡ Some last) where
    stays_apart : is_undone ds c ≡ true → (same : List LayerFields) × (act d layers ≡ Some same) × Apart c same new → option_and_then (runs (left ds)) (act d layers) ≡ Some last
    stays_apart some (same, done, still) = ap (option_and_then (runs (left ds))) done ∙ others_may same new still some run

    by_switch : is_undone ds d ≡ false → is_undone ds c ≡ true → is_same_name (name_of d) (name_of c) ≡ true → (b : Bool) → beq (is_switch d) (is_switch c) ≡ b
        → option_and_then (runs (left ds)) (act d layers) ≡ Some last
    by_switch e some same true f =
        let alike : are_alike d c ≡ true = rw (f, same) refl in
        let clash : false ≡ true = sym e ∙ alike_later d c alike ds ∙ some in
        absurd (cc)
    by_switch e some same false f =
        stays_apart some (step-same c layers others apart d new (same-name (name_of d) (name_of c) same) (bool_apart (is_switch d) (is_switch c) f) acted)

    by_name : is_undone ds d ≡ false → is_undone ds c ≡ true → (n : Bool) → is_same_name (name_of c) (name_of d) ≡ n → option_and_then (runs (left ds)) (act d layers) ≡ Some last
    by_name e some false f = stays_apart some (step-other c layers others apart d new f acted)
    by_name e some true f = by_switch e some (name-turned (name_of d) (name_of c) ∙ f) (beq (is_switch d) (is_switch c)) refl

    by_undoing : is_undone ds d ≡ false → (u : Bool) → undoes d c ≡ u → option_and_then (runs (left ds)) (act d layers) ≡ Some last
    by_undoing e true f = ap (option_and_then (runs (left ds))) (joins c layers others apart d new f acted) ∙ run
    by_undoing e false f = by_name e (later_does f) (is_same_name (name_of c) (name_of d)) refl

  kept : is_undone ds d ≡ false → (o : Option (List LayerFields)) → act d others ≡ o → option_and_then (runs (left ds)) o ≡ Some last
      → option_and_then (runs (left ds)) (act d layers) ≡ Some last
  kept e None k run = absurd (cc)
  kept e (Some new) k run = by_undoing new k run e (undoes d c) refl

  drop_next : runs (left (d ∷ ds)) others ≡ Some last → (t : Bool) → is_undone ds d ≡ t → runs (left (d ∷ ds)) layers ≡ Some last
  drop_next h true e = rw e (others_may layers others apart (undone_later e (undoes d c) refl) (rw e at h))
  drop_next h false e = rw e (kept e (act d others) refl (rw e at h))

-- a command that a later one undoes is left out
pub drop_undone : (c : Command) (cs : List Command) (last : List LayerFields) (layers others : List LayerFields) → Apart c layers others → is_undone cs c ≡ true
    → runs (left cs) others ≡ Some last → runs (left cs) layers ≡ Some last
drop_undone c [] last layers others apart undone h = absurd (cc)
drop_undone c (d ∷ ds) last layers others apart undone h =
    drop_next c d ds last (drop_undone c ds last) layers others apart undone h (is_undone ds d) refl

leads_next : (c : Command) (cs : List Command) (layers last : List LayerFields) → ((new : List LayerFields) → runs cs new ≡ Some last → runs (left cs) new ≡ Some last)
    → (o : Option (List LayerFields)) → act c layers ≡ o → option_and_then (runs cs) o ≡ Some last → (t : Bool) → is_undone cs c ≡ t → runs (left (c ∷ cs)) layers ≡ Some last
leads_next c cs layers last others None k run t e = absurd (cc)
leads_next c cs layers last others (Some new) k run true e = rw e (drop_undone c cs last layers new (acted-apart c layers new k) e (others new run))
leads_next c cs layers last others (Some new) k run false e = rw e (ap (option_and_then (runs (left cs))) k ∙ others new run)

-- what is left leads to the same layers
pub left_leads : (cs : List Command) (layers last : List LayerFields) → runs cs layers ≡ Some last → runs (left cs) layers ≡ Some last
left_leads [] layers last h = h
left_leads (c ∷ cs) layers last h = leads_next c cs layers last (λ new. left_leads cs new last) (act c layers) refl h (is_undone cs c) refl
