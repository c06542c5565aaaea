-- Of the commands that are left none is undone, and where none is undone all are left.
use Rattle.std.proofs.Common.{◌≡◌, ◌∙◌, ◌||◌, ◌&&◌, ℕ, zero, suc, ◌+◌, ◌-◌, ◌≤◌, Bool, true, false, cond, List, [], ◌∷◌, ◌++◌, length, map, take, All, None, Result, Ok, Err, refl, sym, ap, subst, arith}
use Rattle.std.specs.List.{count_by, list_any}
use Rattle.std.proofs.lemmas.Bool.{and_parts}
use Rattle.std.proofs.lemmas.List.Sums.{sum_by-cons}
use Rattle.std.proofs.lemmas.List.Elements.{All-nil, All-cons, All-head, All-tail}
use Rattle.mapdefs.specs.Name.{is_same_name}
use Rattle.batches.specs.Command.{Reading, first_command, reading_of, reading_within}
use Rattle.batches.specs.Command as batch
use Rattle.batches.specs.declared.command.Command.{Command}
use Rattle.batches.specs.declared.command.Command.TheVariants.{On, Off, Clear, Append}
use Rattle.batches.specs.declared.command.CommandFault.{CommandFault}
use Rattle.compaction.specs.Undone.{is_undone, undoes}
use Rattle.compaction.specs.Compacted.{commands_in, commands_of, compacted, compacted_batch, left_of, step, with_batch, written_within}
use Rattle.compaction.specs.LastChanges.{is_switch, name_of}
use Rattle.compaction.specs.Law.{AreCompact, AreLeftWhole, BecomeCompact, IsWhole, StayCompact, fills, switches}
use Rattle.compaction.proofs.Cutting.{first_cut}
use Rattle.compaction.proofs.Dropping.{left}
use Rattle.compaction.proofs.Parts.{alike_name, alike_switch, alike_undoes, can_undo, name-self, same-name, undoes_parts, undone-append, undoing_alike}
use Rattle.compaction.proofs.Reading.{batch_reads, command_of, commands_left, left_before-none, same_commands, taken}

-- no command is undone by a later one
abbrev pub NoneUndone : List Command → Type 0
NoneUndone [] = Unit {0}
NoneUndone (c ∷ cs) = (is_undone cs c ≡ false) × NoneUndone cs

or_parts : (a b : Bool) → (a || b) ≡ false → (a ≡ false) × (b ≡ false)
or_parts true b h = absurd (cc)
or_parts false b h = (refl, h)

-- what is left undoes no more than all
left_undoes : (c : Command) (cs : List Command) → is_undone cs c ≡ false → is_undone (left cs) c ≡ false
left_undoes c [] h = refl
left_undoes c (d ∷ cs) h =
    let parts = or_parts (undoes d c) (is_undone cs c) h in
    go (is_undone cs d) refl parts.0 (left_undoes c cs parts.1)
  where
    go : (t : Bool) → is_undone cs d ≡ t → undoes d c ≡ false → is_undone (left cs) c ≡ false → is_undone (left (d ∷ cs)) c ≡ false
    go true e one others = rw e others
    go false e one others = rw e (rw one others)

pub none_undone : (cs : List Command) → NoneUndone (left cs)
none_undone [] = tt
none_undone (c ∷ cs) = go (is_undone cs c) refl (none_undone cs)
  where
    go : (t : Bool) → is_undone cs c ≡ t → NoneUndone (left cs) → NoneUndone (left (c ∷ cs))
    go true e others = rw e others
    go false e others = rw e (left_undoes c cs e, others)

-- a switch of a layer, by its parts
switches_parts : (name : List ℕ) (c : Command) → switches name c ≡ (is_switch c && is_same_name name (name_of c))
switches_parts name (On other) = refl
switches_parts name (Off other) = refl
switches_parts name (Clear other) = refl
switches_parts name (Append other table) = refl

switch_can : (c : Command) → is_switch c ≡ true → can_undo c ≡ true
switch_can (On other) h = refl
switch_can (Off other) h = refl
switch_can (Clear other) h = absurd (cc)
switch_can (Append other table) h = absurd (cc)

-- of two switches of a layer the later undoes the earlier
switch_undoes : (name : List ℕ) (d c : Command) → switches name d ≡ true → switches name c ≡ true → undoes d c ≡ true
switch_undoes name d c h k =
    let one = and_parts (is_switch d) (is_same_name name (name_of d)) (sym (switches_parts name d) ∙ h) in
    let two = and_parts (is_switch c) (is_same_name name (name_of c)) (sym (switches_parts name c) ∙ k) in
    let names : is_same_name (name_of d) (name_of c) ≡ true = subst (λ (n : List ℕ). is_same_name n (name_of c) ≡ true) (same-name name (name_of d) one.1) two.1 in
    alike_undoes d c (switch_can d one.0) (rw (one.0, two.0) names)

-- one switch more, or another command
count_hit : (p : Command → Bool) (c : Command) (cs : List Command) → p c ≡ true → count_by p (c ∷ cs) ≡ 1 + count_by p cs
count_hit p c cs h = sum_by-cons (λ x. cond (p x) 1 0) c cs ∙ ap (λ (t : Bool). cond t 1 0 + count_by p cs) h

count_miss : (p : Command → Bool) (c : Command) (cs : List Command) → p c ≡ false → count_by p (c ∷ cs) ≡ count_by p cs
count_miss p c cs h =
    let none : 0 + count_by p cs ≡ count_by p cs = omega arith in
    sum_by-cons (λ x. cond (p x) 1 0) c cs ∙ ap (λ (t : Bool). cond t 1 0 + count_by p cs) h ∙ none

-- a switch undoes just switches of its layer
switched_by : (d c : Command) (name : List ℕ) → switches name d ≡ true → undoes d c ≡ true → switches name c ≡ true
switched_by d c name h k =
    let alike = undoing_alike d c k in
    switches_parts name c
    ∙ ap (λ (s : Bool). s && is_same_name name (name_of c)) (sym (alike_switch d c alike))
    ∙ ap (λ (n : List ℕ). is_switch d && is_same_name name n) (sym (alike_name d c alike))
    ∙ sym (switches_parts name d) ∙ h

no_switch : (name : List ℕ) (c : Command) (cs : List Command) → switches name c ≡ true → is_undone cs c ≡ false → count_by (switches name) cs ≡ 0
no_switch name c [] h k = refl
no_switch name c (d ∷ cs) h k =
    let parts = or_parts (undoes d c) (is_undone cs c) k in
    go (switches name d) refl parts.0 (no_switch name c cs h parts.1)
  where
    go : (t : Bool) → switches name d ≡ t → undoes d c ≡ false → count_by (switches name) cs ≡ 0 → count_by (switches name) (d ∷ cs) ≡ 0
    go true e one others = let clash : true ≡ false = sym (switch_undoes name d c e h) ∙ one in absurd (cc)
    go false e one others = count_miss (switches name) d cs e ∙ others

one_switch : (name : List ℕ) (cs : List Command) → NoneUndone cs → count_by (switches name) cs ≤ 1
one_switch name [] none = omega arith
one_switch name (c ∷ cs) (one, none) = go (switches name c) refl (one_switch name cs none)
  where
    go : (t : Bool) → switches name c ≡ t → count_by (switches name) cs ≤ 1 → count_by (switches name) (c ∷ cs) ≤ 1
    go true e others = omega (arith, count_hit (switches name) c cs e, no_switch name c cs e one)
    go false e others = omega (arith, count_miss (switches name) c cs e, others)

-- a CLEAR undoes what fills its layer
fills_undone : (name : List ℕ) (c : Command) → fills name c ≡ undoes (Clear name) c
fills_undone name (On other) = refl
fills_undone name (Off other) = refl
fills_undone name (Clear other) = refl
fills_undone name (Append other table) = refl

none_filled : (name : List ℕ) (earlier later : List Command) → NoneUndone (earlier ++ Clear name ∷ later) → list_any (fills name) earlier ≡ false
none_filled name [] later none = refl
none_filled name (c ∷ earlier) later (one, none) =
    let parts = or_parts (is_undone earlier c) (undoes (Clear name) c || is_undone later c) (sym (undone-append c earlier (Clear name ∷ later)) ∙ one) in
    let clear = or_parts (undoes (Clear name) c) (is_undone later c) parts.1 in
    rw (fills_undone name c, clear.0) (none_filled name earlier later none)

pub none_compact : (cs : List Command) → NoneUndone cs → AreCompact cs
none_compact cs none = record {
  switched = λ name. one_switch name cs none;
  cleared = λ earlier later name is. none_filled name earlier later (subst NoneUndone is none);
}

become_so : (batches : List (List ℕ)) → AreCompact (commands_of (compacted batches))
become_so batches =
    none_compact (commands_of (compacted batches))
    (subst NoneUndone (sym (commands_left batches ∙ left_before-none (commands_of batches))) (none_undone (commands_of batches)))

-- a command that undoes another, among those after it
pub record Undoing (c : Command) (cs : List Command) : Type 0 where
  pub earlier : List Command
  pub by : Command
  pub later : List Command
  pub is : cs ≡ earlier ++ by ∷ later
  pub does : undoes by c ≡ true

undoing : (c : Command) (cs : List Command) → is_undone cs c ≡ true → Undoing c cs
undoing c [] h = absurd (cc)
undoing c (d ∷ cs) h = go (undoes d c) refl (undoing c cs)
  where
    go : (t : Bool) → undoes d c ≡ t → (is_undone cs c ≡ true → Undoing c cs) → Undoing c (d ∷ cs)
    go true e others = record { earlier = []; by = d; later = cs; is = refl; does = e }
    go false e others =
        let more = others (rw e at h) in
        record { earlier = d ∷ more.earlier; by = more.by; later = more.later; is = ap (λ (l : List Command). d ∷ l) more.is; does = more.does }

-- at least one switch
some_switch : (name : List ℕ) (earlier later : List Command) (d : Command) → switches name d ≡ true → 1 ≤ count_by (switches name) (earlier ++ d ∷ later)
some_switch name [] later d h = omega (arith, count_hit (switches name) d later h)
some_switch name (c ∷ earlier) later d h = go (switches name c) refl (some_switch name earlier later d h)
  where
    go : (t : Bool) → switches name c ≡ t → 1 ≤ count_by (switches name) (earlier ++ d ∷ later) → 1 ≤ count_by (switches name) (c ∷ earlier ++ d ∷ later)
    go true e others = omega (arith, count_hit (switches name) c (earlier ++ d ∷ later) e)
    go false e others = omega (arith, count_miss (switches name) c (earlier ++ d ∷ later) e, others)

module _ (c : Command) (cs earlier later : List Command) (all : AreCompact (c ∷ cs)) where
  two_switches : (name : List ℕ) (d : Command) → cs ≡ earlier ++ d ∷ later → switches name d ≡ true → undoes d c ≡ true → ⊥
  two_switches name d is h does =
      let more : 1 ≤ count_by (switches name) cs = subst (λ (l : List Command). 1 ≤ count_by (switches name) l) (sym is) (some_switch name earlier later d h) in
      absurd (omega (arith, more, all.switched name, count_hit (switches name) c cs (switched_by d c name h does)))

  undone_clear : (name : List ℕ) → cs ≡ earlier ++ Clear name ∷ later → undoes (Clear name) c ≡ true → ⊥
  undone_clear name is h =
      let none = all.cleared (c ∷ earlier) later name (ap (λ (l : List Command). c ∷ l) is) in
      let parts = or_parts (fills name c) (list_any (fills name) earlier) none in
      let clash : true ≡ false = sym h ∙ sym (fills_undone name c) ∙ parts.0 in
      absurd (cc)

  clashes : (d : Command) → cs ≡ earlier ++ d ∷ later → undoes d c ≡ true → ⊥
  clashes (On name) is h = two_switches name (On name) is (name-self name) h
  clashes (Off name) is h = two_switches name (Off name) is (name-self name) h
  clashes (Clear name) is h = undone_clear name is h
  clashes (Append name table) is h = let clash : false ≡ true = sym (undoes_parts (Append name table) c) ∙ h in absurd (cc)

compact_tail : (c : Command) (cs : List Command) → AreCompact (c ∷ cs) → AreCompact cs
compact_tail c cs all = record {
  switched = λ name. fewer name (switches name c) refl;
  cleared = λ earlier later name is. (or_parts (fills name c) (list_any (fills name) earlier) (all.cleared (c ∷ earlier) later name (ap (λ (l : List Command). c ∷ l) is))).1;
}
  where
    fewer : (name : List ℕ) (t : Bool) → switches name c ≡ t → count_by (switches name) cs ≤ 1
    fewer name true e = omega (arith, count_hit (switches name) c cs e, all.switched name)
    fewer name false e = omega (arith, count_miss (switches name) c cs e, all.switched name)

pub compact_none : (cs : List Command) → AreCompact cs → NoneUndone cs
compact_none [] all = tt
compact_none (c ∷ cs) all = (go (is_undone cs c) refl, compact_none cs (compact_tail c cs all))
  where
    go : (t : Bool) → is_undone cs c ≡ t → is_undone cs c ≡ false
    go false e = e
    go true e = let u = undoing c cs e in absurd (clashes c cs u.earlier u.later all u.by u.is u.does)

-- where none of them is undone, all bytes are left
left_whole : (n : ℕ) (bytes : List ℕ) (later : List Command) → (reading_within n bytes).wrong ≡ None → NoneUndone (map command_of (written_within n bytes) ++ later)
    → left_of (written_within n bytes) later ≡ bytes
unfolding written_within reading_within
left_whole n [] later whole none = refl
left_whole zero (b ∷ bs) later whole none = absurd (cc)
left_whole (suc n) (b ∷ bs) later whole none = go (first_command (b ∷ bs)) refl (left_whole n) whole none
  where
    go : (r : Result (Command × List ℕ) CommandFault) → first_command (b ∷ bs) ≡ r
        → ((rest : List ℕ) (later : List Command) → (reading_within n rest).wrong ≡ None → NoneUndone (map command_of (written_within n rest) ++ later) → left_of (written_within n rest) later ≡ rest)
        → (batch.step r (reading_within n)).wrong ≡ None → NoneUndone (map command_of (step (b ∷ bs) r (written_within n)) ++ later)
        → left_of (step (b ∷ bs) r (written_within n)) later ≡ b ∷ bs
    go (Err fault) e others w none = absurd (cc)
    go (Ok read) e others w (one, none) =
        let cut = first_cut (b ∷ bs) read.1 read.0 e in
        rw one
        (ap (λ (l : List ℕ). take (length (b ∷ bs) - length read.1) (b ∷ bs) ++ l) (others read.1 later w none)
        ∙ ap (λ (l : List ℕ). l ++ read.1) (taken (b ∷ bs) cut.0 read.1 cut.1.whole)
        ∙ sym cut.1.whole)

batch_whole : (b : List ℕ) (later : List Command) → IsWhole b → NoneUndone (commands_in b ++ later) → compacted_batch b later ≡ b
batch_whole b later whole none =
    left_whole (length b) b later whole.read (subst (λ (cs : List Command). NoneUndone (cs ++ later)) (sym (same_commands (length b) b)) none)

later_none : (a b : List Command) → NoneUndone (a ++ b) → NoneUndone b
later_none [] b none = none
later_none (c ∷ a) b (one, none) = later_none a b none

with_whole : (b : List ℕ) (bs : List (List ℕ)) → 1 ≤ length b → with_batch b bs ≡ b ∷ bs
with_whole [] bs h = absurd (omega arith)
with_whole (x ∷ b) bs h = refl

all_whole : (bs : List (List ℕ)) → All IsWhole bs → NoneUndone (commands_of bs) → compacted bs ≡ bs
all_whole [] all none = refl
all_whole (b ∷ bs) all none =
    let whole = All-head IsWhole b bs all in
    ap (λ (l : List (List ℕ)). with_batch (compacted_batch b (commands_of bs)) l) (all_whole bs (All-tail IsWhole b bs all) (later_none (commands_in b) (commands_of bs) none))
    ∙ ap (λ (l : List ℕ). with_batch l bs) (batch_whole b (commands_of bs) whole none)
    ∙ with_whole b bs whole.some

pub left_as_they_are : AreLeftWhole
left_as_they_are bs all compact = all_whole bs all (compact_none (commands_of bs) compact)

-- what is left is whole
with_batch-whole : (b : List ℕ) (bs : List (List ℕ)) → (reading_of b).wrong ≡ None → All IsWhole bs → All IsWhole (with_batch b bs)
with_batch-whole [] bs read all = all
with_batch-whole (x ∷ b) bs read all = All-cons IsWhole (x ∷ b) bs (record { some = omega arith; read = read }) all

compacted_whole : (bs : List (List ℕ)) → All IsWhole (compacted bs)
compacted_whole [] = All-nil IsWhole
compacted_whole (b ∷ bs) =
    with_batch-whole (compacted_batch b (commands_of bs)) (compacted bs) (ap (λ (r : Reading). r.wrong) (batch_reads b (commands_of bs))) (compacted_whole bs)

pub become_compact : BecomeCompact
become_compact batches = (become_so batches, compacted_whole batches)

pub stay_compact : StayCompact
stay_compact bs = left_as_they_are (compacted bs) (compacted_whole bs) (become_so bs)
