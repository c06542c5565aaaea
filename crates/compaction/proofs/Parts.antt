-- What of which layer a command changes, and when another undoes it.
use Rattle.std.proofs.Common.{◌≡◌, ◌∙◌, ◌&&◌, ◌||◌, ℕ, Bool, true, false, not, List, [], ◌∷◌, ◌++◌, refl, sym, ap, subst, eqb, eqb-true, eq-eqb}
use Rattle.std.proofs.lemmas.Bool.{and_parts}
use Rattle.std.proofs.lemmas.List.Folds.{list_any-append}
use Rattle.std.specs.Bool.{beq}
use Rattle.mapdefs.specs.Name.{is_same_name}
use Rattle.batches.specs.declared.command.Command.{Command}
use Rattle.batches.specs.declared.command.Command.TheVariants.{On, Off, Clear, Append}
use Rattle.compaction.specs.Undone.{is_undone, undoes}
use Rattle.compaction.specs.LastChanges.{is_switch, name_of}

-- names that are the same are equal
pub same-name : (a b : List ℕ) → is_same_name a b ≡ true → a ≡ b
same-name [] [] h = refl
same-name [] (y ∷ b) h = absurd (cc)
same-name (x ∷ a) [] h = absurd (cc)
same-name (x ∷ a) (y ∷ b) h =
    let parts = and_parts (eqb x y) (is_same_name a b) h in
    let head : x ≡ y = eqb-true x y parts.0 in
    let tail : a ≡ b = same-name a b parts.1 in
    cc (head, tail)

pub name-self : (a : List ℕ) → is_same_name a a ≡ true
name-self [] = refl
name-self (x ∷ a) = rw (eq-eqb x x refl) (name-self a)

pub name-turned : (a b : List ℕ) → is_same_name a b ≡ is_same_name b a
name-turned a b = go (is_same_name a b) (is_same_name b a) refl refl
  where
    go : (t u : Bool) → is_same_name a b ≡ t → is_same_name b a ≡ u → t ≡ u
    go true true h k = refl
    go false false h k = refl
    go true false h k = let same = same-name a b h in let clash : true ≡ false = sym (name-self a) ∙ subst (λ (x : List ℕ). is_same_name x a ≡ false) (sym same) k in absurd (cc)
    go false true h k = let same = same-name b a k in let clash : true ≡ false = sym (name-self b) ∙ subst (λ (x : List ℕ). is_same_name x b ≡ false) (sym same) h in absurd (cc)

-- a CLEAR, ON or OFF, which can undo another command
abbrev pub can_undo : Command → Bool
can_undo (On name) = true
can_undo (Off name) = true
can_undo (Clear name) = true
can_undo (Append name table) = false

-- they change the same of the same layer
abbrev pub are_alike : Command → Command → Bool
are_alike c d = beq (is_switch c) (is_switch d) && is_same_name (name_of c) (name_of d)

pub undoes_parts : (d c : Command) → undoes d c ≡ (can_undo d && are_alike d c)
undoes_parts (On a) (On b) = refl
undoes_parts (On a) (Off b) = refl
undoes_parts (On a) (Clear b) = refl
undoes_parts (On a) (Append b t) = refl
undoes_parts (Off a) (On b) = refl
undoes_parts (Off a) (Off b) = refl
undoes_parts (Off a) (Clear b) = refl
undoes_parts (Off a) (Append b t) = refl
undoes_parts (Clear a) (On b) = refl
undoes_parts (Clear a) (Off b) = refl
undoes_parts (Clear a) (Clear b) = refl
undoes_parts (Clear a) (Append b t) = refl
undoes_parts (Append a s) (On b) = refl
undoes_parts (Append a s) (Off b) = refl
undoes_parts (Append a s) (Clear b) = refl
undoes_parts (Append a s) (Append b t) = refl

bool-same : (a b : Bool) → beq a b ≡ true → a ≡ b
bool-same true true h = refl
bool-same false false h = refl
bool-same true false h = absurd (cc)
bool-same false true h = absurd (cc)

pub bool_apart : (a b : Bool) → beq a b ≡ false → a ≡ not b
bool_apart true true h = absurd (cc)
bool_apart false false h = absurd (cc)
bool_apart true false h = refl
bool_apart false true h = refl

-- what undoes one of two that are alike undoes the other
module _ (c d : Command) (same : are_alike c d ≡ true) where
  pub alike_switch : is_switch c ≡ is_switch d
  alike_switch = bool-same (is_switch c) (is_switch d) (and_parts (beq (is_switch c) (is_switch d)) (is_same_name (name_of c) (name_of d)) same).0

  pub alike_name : name_of c ≡ name_of d
  alike_name = same-name (name_of c) (name_of d) (and_parts (beq (is_switch c) (is_switch d)) (is_same_name (name_of c) (name_of d)) same).1

  pub alike_undone : (e : Command) → undoes e c ≡ undoes e d
  alike_undone e =
      undoes_parts e c
      ∙ ap (λ (s : Bool). can_undo e && (beq (is_switch e) s && is_same_name (name_of e) (name_of c))) alike_switch
      ∙ ap (λ (n : List ℕ). can_undo e && (beq (is_switch e) (is_switch d) && is_same_name (name_of e) n)) alike_name
      ∙ sym (undoes_parts e d)

  pub alike_later : (cs : List Command) → is_undone cs c ≡ is_undone cs d
  alike_later [] = refl
  alike_later (e ∷ cs) = ap (λ (t : Bool). t || is_undone cs c) (alike_undone e) ∙ ap (λ (t : Bool). undoes e d || t) (alike_later cs)

-- what undoes another command is alike
pub undoing_alike : (d c : Command) → undoes d c ≡ true → are_alike d c ≡ true
undoing_alike d c h = (and_parts (can_undo d) (are_alike d c) (sym (undoes_parts d c) ∙ h)).1

-- of two that are alike, one that can undo does so
pub alike_undoes : (d c : Command) → can_undo d ≡ true → are_alike d c ≡ true → undoes d c ≡ true
alike_undoes d c can same = undoes_parts d c ∙ rw (can, same) refl

pub undone-append : (c : Command) (a b : List Command) → is_undone (a ++ b) c ≡ (is_undone a c || is_undone b c)
undone-append c a b = list_any-append (λ l. undoes l c) a b
