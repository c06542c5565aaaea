-- Layers that are put in place of others, by their names.
use Rattle.std.proofs.Common.{◌≡◌, ◌∙◌, ℕ, Bool, true, false, if◌then◌else◌, List, [], ◌∷◌, Option, Some, refl, sym, ap, subst}
use Rattle.mapdefs.specs.Name.{is_same_name}
use Rattle.mapdefs.specs.declared.layer.LayerFields.{LayerFields}
use Rattle.compaction.proofs.Acting.{first_named, put}
use Rattle.compaction.proofs.Parts.{same-name}

-- a layer that is found has the name
pub named-name : (name : List ℕ) (layers : List LayerFields) (layer : LayerFields) → first_named name layers ≡ Some layer → is_same_name layer.name name ≡ true
named-name name [] layer h = absurd (cc)
named-name name (l ∷ layers) layer h = go (is_same_name l.name name) refl (named-name name layers layer)
  where
    go : (t : Bool) → is_same_name l.name name ≡ t → (first_named name layers ≡ Some layer → is_same_name layer.name name ≡ true) → is_same_name layer.name name ≡ true
    go true e others = let same : l ≡ layer = cc (rw e at h) in subst (λ (x : LayerFields). is_same_name x.name name ≡ true) same e
    go false e others = others (rw e at h)

module _ (name : List ℕ) (new : LayerFields) (called : is_same_name new.name name ≡ true) where
  -- the layer that was put in place is found
  pub put-found : (layers : List LayerFields) (layer : LayerFields) → first_named name layers ≡ Some layer → first_named name (put name new layers) ≡ Some new
  put-found [] layer h = absurd (cc)
  put-found (l ∷ layers) layer h = go (is_same_name l.name name) refl (put-found layers layer)
    where
      go : (t : Bool) → is_same_name l.name name ≡ t → (first_named name layers ≡ Some layer → first_named name (put name new layers) ≡ Some new)
          → first_named name (put name new (l ∷ layers)) ≡ Some new
      go true e others = rw e (rw called refl)
      go false e others = rw e (rw e (others (rw e at h)))

  -- it stands in place of another one that was put there before
  pub put-again : (old : LayerFields) → is_same_name old.name name ≡ true → (layers : List LayerFields) → put name new (put name old layers) ≡ put name new layers
  put-again old was [] = refl
  put-again old was (l ∷ layers) = go (is_same_name l.name name) refl (put-again old was layers)
    where
      go : (t : Bool) → is_same_name l.name name ≡ t → put name new (put name old layers) ≡ put name new layers → put name new (put name old (l ∷ layers)) ≡ put name new (l ∷ layers)
      go true e others = rw e (rw was refl)
      go false e others = rw e (rw e (ap (λ (ls : List LayerFields). l ∷ ls) others))

  module _ (other : List ℕ) (apart : is_same_name name other ≡ false) where
    -- it isn't found by another name
    not-called : is_same_name new.name other ≡ false
    not-called = subst (λ (x : List ℕ). is_same_name x other ≡ false) (sym (same-name new.name name called)) apart

    was-not : (l : LayerFields) → is_same_name l.name name ≡ true → is_same_name l.name other ≡ false
    was-not l e = subst (λ (x : List ℕ). is_same_name x other ≡ false) (sym (same-name l.name name e)) apart

    pub put-other : (layers : List LayerFields) → first_named other (put name new layers) ≡ first_named other layers
    put-other [] = refl
    put-other (l ∷ layers) = go (is_same_name l.name name) refl (put-other layers)
      where
        go : (t : Bool) → is_same_name l.name name ≡ t → first_named other (put name new layers) ≡ first_named other layers
            → first_named other (put name new (l ∷ layers)) ≡ first_named other (l ∷ layers)
        go true e others = rw e (rw (not-called, was-not l e) refl)
        go false e others = rw e (ap (λ (o : Option LayerFields). if is_same_name l.name other then Some l else o) others)

    -- two layers of two names are put in place in either order
    pub put-both : (second : LayerFields) → is_same_name second.name other ≡ true → is_same_name second.name name ≡ false → (layers : List LayerFields)
        → put other second (put name new layers) ≡ put name new (put other second layers)
    put-both second called_other apart_other [] = refl
    put-both second called_other apart_other (l ∷ layers) = go (is_same_name l.name name) (is_same_name l.name other) refl refl (put-both second called_other apart_other layers)
      where
        go : (t u : Bool) → is_same_name l.name name ≡ t → is_same_name l.name other ≡ u → put other second (put name new layers) ≡ put name new (put other second layers)
            → put other second (put name new (l ∷ layers)) ≡ put name new (put other second (l ∷ layers))
        go true true e f others = let clash : true ≡ false = sym f ∙ was-not l e in absurd (cc)
        go true false e f others = rw (e, f) (rw (not-called, e) refl)
        go false true e f others = rw (e, f) (rw apart_other refl)
        go false false e f others = rw (e, f) (rw e (ap (λ (ls : List LayerFields). l ∷ ls) others))
