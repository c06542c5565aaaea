-- Commands that are noted one after the other, and the last that undoes one.
use Rattle.std.proofs.Common.{◌≡◌, ◌∙◌, ◌||◌, ◌&&◌, ℕ, suc, ◌+◌, ◌<◌, ◌≤◌, Bool, true, false, if◌then◌else◌, List, [], ◌∷◌, ◌++◌, length, refl, sym, ap, arith, length-append}
use Rattle.std.specs.Bool.{beq}
use Rattle.std.proofs.lemmas.Bool.{and_parts}
use Rattle.std.proofs.Math.Bool.{or-true}
use Rattle.mapdefs.specs.Name.{is_same_name}
use Rattle.batches.specs.declared.command.Command.{Command}
use Rattle.batches.specs.declared.command.Command.TheVariants.{On, Off, Clear, Append}
use Rattle.compaction.specs.Undone.{is_undone, last_undoing, undoes}
use Rattle.compaction.specs.LastChanges.{AreLast, Changes, changed, is_of, is_switch, last_noted, name_of, noting}
use Rattle.compaction.specs.declared.last_changes.LastChange.{LastChange}
use Rattle.compaction.proofs.Parts.{alike_name, alike_switch, are_alike, can_undo, same-name, undoes_parts, undone-append}

bool-is : (a b : Bool) → beq a b ≡ true → a ≡ b
bool-is true true h = refl
bool-is false false h = refl
bool-is true false h = absurd (cc)
bool-is false true h = absurd (cc)

and-turned : (a b : Bool) → (a && b) ≡ (b && a)
and-turned true true = refl
and-turned true false = refl
and-turned false true = refl
and-turned false false = refl

-- of a command that changes the same, it is the same
of_alike : (d c : Command) (x : LastChange) → are_alike d c ≡ true → is_of c x ≡ is_of d x
of_alike d c x same =
    ap (λ (n : List ℕ). is_same_name x.name n && beq x.is_switch (is_switch c)) (sym (alike_name d c same))
    ∙ ap (λ (s : Bool). is_same_name x.name (name_of d) && beq x.is_switch s) (sym (alike_switch d c same))

-- what was noted of one command is noted of those that are alike
of_noted : (d c : Command) (x : LastChange) → is_of d x ≡ true → is_of c x ≡ are_alike d c
of_noted d c x h =
    let parts = and_parts (is_same_name x.name (name_of d)) (beq x.is_switch (is_switch d)) h in
    ap (λ (n : List ℕ). is_same_name n (name_of c) && beq x.is_switch (is_switch c)) (same-name x.name (name_of d) parts.0)
    ∙ ap (λ (s : Bool). is_same_name (name_of d) (name_of c) && beq s (is_switch c)) (bool-is x.is_switch (is_switch d) parts.1)
    ∙ and-turned (is_same_name (name_of d) (name_of c)) (beq (is_switch d) (is_switch c))

changed_alike : (d c : Command) (n : ℕ) → are_alike d c ≡ true → (last : List LastChange) → last_noted c (changed d n last) ≡ n
changed_alike d c n same [] =
    let is : (is_same_name (name_of d) (name_of c) && beq (is_switch d) (is_switch c)) ≡ true = and-turned (is_same_name (name_of d) (name_of c)) (beq (is_switch d) (is_switch c)) ∙ same in
    rw is refl
changed_alike d c n same (x ∷ last) = go (is_of d x) refl (changed_alike d c n same last)
  where
    go : (t : Bool) → is_of d x ≡ t → last_noted c (changed d n last) ≡ n → last_noted c (changed d n (x ∷ last)) ≡ n
    go true e others = let is : is_of c x ≡ true = of_alike d c x same ∙ e in rw e (rw is refl)
    go false e others = let is : is_of c x ≡ false = of_alike d c x same ∙ e in rw e (rw is others)

changed_apart : (d c : Command) (n : ℕ) → are_alike d c ≡ false → (last : List LastChange) → last_noted c (changed d n last) ≡ last_noted c last
changed_apart d c n apart [] =
    let is : (is_same_name (name_of d) (name_of c) && beq (is_switch d) (is_switch c)) ≡ false = and-turned (is_same_name (name_of d) (name_of c)) (beq (is_switch d) (is_switch c)) ∙ apart in
    rw is refl
changed_apart d c n apart (x ∷ last) = go (is_of d x) (is_of c x) refl refl (changed_apart d c n apart last)
  where
    go : (t u : Bool) → is_of d x ≡ t → is_of c x ≡ u → last_noted c (changed d n last) ≡ last_noted c last → last_noted c (changed d n (x ∷ last)) ≡ last_noted c (x ∷ last)
    go true u e f others = let is : is_of c x ≡ false = of_noted d c x e ∙ apart in rw e (rw is refl)
    go false true e f others = rw e (rw f refl)
    go false false e f others = rw e (rw f others)

-- a command that is noted is the last one that undoes what it undoes
noted_changed : (d c : Command) (n : ℕ) (last : List LastChange) → can_undo d ≡ true → last_noted c (changed d n last) ≡ (if undoes d c then n else last_noted c last)
noted_changed d c n last can = go (are_alike d c) refl
  where
    does : undoes d c ≡ are_alike d c
    does = undoes_parts d c ∙ rw can refl

    go : (t : Bool) → are_alike d c ≡ t → last_noted c (changed d n last) ≡ (if undoes d c then n else last_noted c last)
    go true e = changed_alike d c n e last ∙ sym (ap (λ (u : Bool). if u then n else last_noted c last) (does ∙ e))
    go false e = changed_apart d c n e last ∙ sym (ap (λ (u : Bool). if u then n else last_noted c last) (does ∙ e))

pub noted_as : (d c : Command) (n : ℕ) (last : List LastChange) → last_noted c (noting d n last) ≡ (if undoes d c then n else last_noted c last)
noted_as (On name) c n last = noted_changed (On name) c n last refl
noted_as (Off name) c n last = noted_changed (Off name) c n last refl
noted_as (Clear name) c n last = noted_changed (Clear name) c n last refl
noted_as (Append name table) c n last = sym (ap (λ (u : Bool). if u then n else last_noted c last) (undoes_parts (Append name table) c))

-- the last one that undoes a command, with one command more
pub last_push : (c d : Command) (cs : List Command) → last_undoing c (cs ++ d ∷ []) ≡ (if undoes d c then length cs + 1 else last_undoing c cs)
last_push c d [] = refl
last_push c d (x ∷ cs) = go (undoes d c) (is_undone cs c) refl refl (last_push c d cs)
  where
    either : is_undone (cs ++ d ∷ []) c ≡ (is_undone cs c || (undoes d c || false))
    either = undone-append c cs (d ∷ [])

    go : (t u : Bool) → undoes d c ≡ t → is_undone cs c ≡ u → last_undoing c (cs ++ d ∷ []) ≡ (if undoes d c then length cs + 1 else last_undoing c cs)
        → last_undoing c (x ∷ cs ++ d ∷ []) ≡ (if undoes d c then suc (length cs) + 1 else last_undoing c (x ∷ cs))
    go true true e f others =
        let undone : is_undone (cs ++ d ∷ []) c ≡ true = either ∙ rw f refl in
        let is : last_undoing c (cs ++ d ∷ []) ≡ length cs + 1 = rw e at others in
        rw (undone, e) (omega (arith, is))
    go true false e f others =
        let undone : is_undone (cs ++ d ∷ []) c ≡ true = either ∙ rw (f, e) refl in
        let is : last_undoing c (cs ++ d ∷ []) ≡ length cs + 1 = rw e at others in
        rw (undone, e) (omega (arith, is))
    go false true e f others =
        let undone : is_undone (cs ++ d ∷ []) c ≡ true = either ∙ rw f refl in
        let is : last_undoing c (cs ++ d ∷ []) ≡ last_undoing c cs = rw e at others in
        rw (undone, e, f) (ap suc is)
    go false false e f others =
        let undone : is_undone (cs ++ d ∷ []) c ≡ false = either ∙ rw (f, e) refl in
        rw (undone, e, f) refl

-- one command more is noted
pub note_more : (old new : Changes) (d : Command) (cs : List Command) → new.count ≡ old.count + 1 → new.last ≡ noting d (old.count + 1) old.last → AreLast old cs → AreLast new (cs ++ d ∷ [])
note_more old new d cs count last are = record {
  counted = omega (arith, count, are.counted, length-append cs (d ∷ []));
  undoing = λ c.
      ap (last_noted c) last ∙ noted_as d c (old.count + 1) old.last
      ∙ ap (λ (n : ℕ). if undoes d c then n + 1 else last_noted c old.last) are.counted
      ∙ ap (λ (n : ℕ). if undoes d c then length cs + 1 else n) (are.undoing c)
      ∙ sym (last_push c d cs);
}

-- nothing undoes it
pub none_last : (c : Command) (cs : List Command) → is_undone cs c ≡ false → last_undoing c cs ≡ 0
none_last c [] h = refl
none_last c (d ∷ cs) h = go (undoes d c) (is_undone cs c) refl refl
  where
    go : (t u : Bool) → undoes d c ≡ t → is_undone cs c ≡ u → last_undoing c (d ∷ cs) ≡ 0
    go true u e f = let clash : true ≡ false = rw e at h in absurd (cc)
    go false true e f = let clash : true ≡ false = rw (e, f) at h in absurd (cc)
    go false false e f = rw (f, e) refl

some_last : (c : Command) (cs : List Command) → is_undone cs c ≡ true → 1 ≤ last_undoing c cs
some_last c [] h = absurd (cc)
some_last c (d ∷ cs) h = go (undoes d c) (is_undone cs c) refl refl
  where
    go : (t u : Bool) → undoes d c ≡ t → is_undone cs c ≡ u → 1 ≤ last_undoing c (d ∷ cs)
    go t true e f = rw f (omega arith)
    go true false e f = rw (f, e) (omega arith)
    go false false e f = let clash : false ≡ true = rw (e, f) at h in absurd (cc)

-- the last one that undoes a command comes after those before it just where one of the later ones undoes it
pub undone_late : (c : Command) (a b : List Command) → is_undone b c ≡ true → length a < last_undoing c (a ++ b)
undone_late c [] b h = omega (arith, some_last c b h)
undone_late c (x ∷ a) b h =
    let undone : is_undone (a ++ b) c ≡ true = undone-append c a b ∙ rw h (or-true (is_undone a c)) in
    rw undone (omega (arith, undone_late c a b h))

pub not_late : (c : Command) (a b : List Command) → is_undone b c ≡ false → last_undoing c (a ++ b) ≤ length a
not_late c [] b h = omega (arith, none_last c b h)
not_late c (x ∷ a) b h = go (is_undone (a ++ b) c) (undoes x c) refl refl (not_late c a b h)
  where
    go : (t u : Bool) → is_undone (a ++ b) c ≡ t → undoes x c ≡ u → last_undoing c (a ++ b) ≤ length a → last_undoing c (x ∷ a ++ b) ≤ suc (length a)
    go true u e f others = rw e (omega (arith, others))
    go false true e f others = rw (e, f) (omega arith)
    go false false e f others = rw (e, f) (omega arith)
