-- Commands of a batch that are gone through, noted or left.
use Rattle.std.proofs.Common.{◌≡◌, ◌∙◌, ℕ, zero, suc, ◌+◌, ◌-◌, ◌<◌, ◌≤◌, Bool, true, false, if◌then◌else◌, List, [], ◌∷◌, ◌++◌, length, take, Result, Ok, Err, refl, sym, ap, subst, arith, length-append, append_assoc}
use Rattle.std.proofs.lemmas.List.{append-nil}
use Rattle.batches.specs.Command.{Reading, first_command, reading_of, reading_within}
use Rattle.batches.specs.Command as batch
use Rattle.batches.specs.declared.command.Command.{Command}
use Rattle.batches.specs.declared.command.CommandFault.{CommandFault}
use Rattle.batches.proofs.Leading.{reading-step}
use Rattle.compaction.specs.Undone.{is_undone, last_undoing}
use Rattle.compaction.specs.Compacted.{Written, commands_in, compacted_batch, left_of, step, written_of, written_within}
use Rattle.compaction.specs.LastChanges.{AreLast, Changes, last_noted, noting}
use Rattle.compaction.proofs.Cutting.{first_cut}
use Rattle.compaction.proofs.Noting.{not_late, note_more, undone_late}
use Rattle.compaction.proofs.Reading.{has-byte, same_commands}

-- a command takes a byte at least
shrinks : (bytes : List ℕ) (read : Command × List ℕ) → first_command bytes ≡ Ok read → length read.1 < length bytes
shrinks bytes read h =
    let cut = first_cut bytes read.1 read.0 h in
    let some : 1 ≤ length (cut.0 ++ []) = has-byte (cut.0 ++ []) (read.0, []) (cut.1.read []) in
    omega (arith, some, length-append cut.0 [], ap length cut.1.whole, length-append cut.0 read.1)

step-same : (f g : List ℕ → List Written) (bytes : List ℕ) → ((rest : List ℕ) → length rest < length bytes → f rest ≡ g rest) → (r : Result (Command × List ℕ) CommandFault)
    → first_command bytes ≡ r → step bytes r f ≡ step bytes r g
step-same f g bytes same (Ok read) e =
    ap (λ (ws : List Written). record { command = read.0; bytes = take (length bytes - length read.1) bytes } ∷ ws) (same read.1 (shrinks bytes read e))
step-same f g bytes same (Err fault) e = refl

enough : (n m : ℕ) (bytes : List ℕ) → length bytes ≤ n → length bytes ≤ m → written_within n bytes ≡ written_within m bytes
unfolding written_within
enough n m [] h k = refl
enough zero m (b ∷ bs) h k = absurd (omega arith)
enough (suc n) zero (b ∷ bs) h k = absurd (omega arith)
enough (suc n) (suc m) (b ∷ bs) h k =
    step-same (written_within n) (written_within m) (b ∷ bs) (λ rest short. enough n m rest (omega arith) (omega arith)) (first_command (b ∷ bs)) refl

-- the first command of a batch, and those after it
pub written-step : (bytes : List ℕ) → 1 ≤ length bytes → written_of bytes ≡ step bytes (first_command bytes) written_of
unfolding written_within
written-step [] h = absurd (omega arith)
written-step (b ∷ bs) h =
    step-same (written_within (length bs)) written_of (b ∷ bs) (λ rest short. enough (length bs) (length rest) rest (omega arith) (omega arith)) (first_command (b ∷ bs)) refl

-- no command is left
pub none-in : (bytes : List ℕ) → length bytes ≤ 0 → commands_in bytes ≡ []
unfolding reading_within
none-in [] h = refl
none-in (b ∷ bs) h = absurd (omega arith)

pub unread-in : (bytes : List ℕ) (fault : CommandFault) → 1 ≤ length bytes → first_command bytes ≡ Err fault → commands_in bytes ≡ []
unread-in bytes fault some h =
    ap (λ (r : Reading). r.commands) (reading-step bytes some ∙ ap (λ (r : Result (Command × List ℕ) CommandFault). batch.step r reading_of) h)

pub next-in : (bytes rest : List ℕ) (c : Command) → 1 ≤ length bytes → first_command bytes ≡ Ok (c, rest) → commands_in bytes ≡ c ∷ commands_in rest
next-in bytes rest c some h =
    ap (λ (r : Reading). r.commands) (reading-step bytes some ∙ ap (λ (r : Result (Command × List ℕ) CommandFault). batch.step r reading_of) h)

-- nothing of it is left
pub none-left : (bytes : List ℕ) (later : List Command) → length bytes ≤ 0 → compacted_batch bytes later ≡ []
unfolding written_within
none-left [] later h = refl
none-left (b ∷ bs) later h = absurd (omega arith)

pub unread-left : (bytes : List ℕ) (later : List Command) (fault : CommandFault) → 1 ≤ length bytes → first_command bytes ≡ Err fault → compacted_batch bytes later ≡ []
unread-left bytes later fault some h =
    ap (λ (ws : List Written). left_of ws later) (written-step bytes some ∙ ap (λ (r : Result (Command × List ℕ) CommandFault). step bytes r written_of) h)

pub next-left : (bytes rest : List ℕ) (later : List Command) (c : Command) → 1 ≤ length bytes → first_command bytes ≡ Ok (c, rest)
    → compacted_batch bytes later ≡ (if is_undone (commands_in rest ++ later) c then [] else take (length bytes - length rest) bytes) ++ compacted_batch rest later
next-left bytes rest later c some h =
    ap (λ (ws : List Written). left_of ws later) (written-step bytes some ∙ ap (λ (r : Result (Command × List ℕ) CommandFault). step bytes r written_of) h)
    ∙ ap (λ (cs : List Command). (if is_undone (cs ++ later) c then [] else take (length bytes - length rest) bytes) ++ compacted_batch rest later) (same_commands (length rest) rest)

-- the commands that were noted, and those that remain, are all
pub record HaveNoted (changes : Changes) (rest : List ℕ) (all : List Command) : Type 0 where
  pub done : List Command
  pub last : AreLast changes done
  pub whole : done ++ commands_in rest ≡ all

pub note_first : (changes : Changes) (bytes : List ℕ) (commands : List Command) → AreLast changes commands → HaveNoted changes bytes (commands ++ commands_in bytes)
note_first changes bytes commands are = record { done = commands; last = are; whole = refl }

pub note_next : (old new : Changes) (bytes rest : List ℕ) (c : Command) (all : List Command) → 1 ≤ length bytes → first_command bytes ≡ Ok (c, rest)
    → new.count ≡ old.count + 1 → new.last ≡ noting c (old.count + 1) old.last → HaveNoted old bytes all → HaveNoted new rest all
note_next old new bytes rest c all some h count last have = record {
  done = have.done ++ c ∷ [];
  last = note_more old new c have.done count last have.last;
  whole = append_assoc have.done (c ∷ []) (commands_in rest) ∙ ap (λ (cs : List Command). have.done ++ cs) (sym (next-in bytes rest c some h)) ∙ have.whole;
}

pub note_last : (changes : Changes) (rest : List ℕ) (all : List Command) → commands_in rest ≡ [] → HaveNoted changes rest all → AreLast changes all
note_last changes rest all none have =
    subst (AreLast changes) (sym (append-nil have.done) ∙ ap (λ (cs : List Command). have.done ++ cs) (sym none) ∙ have.whole) have.last

-- what was added and what is left of the rest are what is left of the whole batch
pub record HaveAdded (changes : Changes) (count : ℕ) (rest out whole : List ℕ) (later up_to_end : List Command) : Type 0 where
  pub before : List Command
  pub last : AreLast changes (before ++ (commands_in rest ++ later))
  pub counted : count ≡ length before
  pub commands : before ++ commands_in rest ≡ up_to_end
  pub bytes : out ++ compacted_batch rest later ≡ whole

pub add_first : (changes : Changes) (before : ℕ) (batch out : List ℕ) (earlier later : List Command) → AreLast changes (earlier ++ (commands_in batch ++ later)) → before ≡ length earlier
    → HaveAdded changes before batch out (out ++ compacted_batch batch later) later (earlier ++ commands_in batch)
add_first changes before batch out earlier later are counted = record { before = earlier; last = are; counted = counted; commands = refl; bytes = refl }

module _ (changes : Changes) (count next : ℕ) (bytes rest out whole : List ℕ) (later up_to_end : List Command) (c : Command) (some : 1 ≤ length bytes) (read : first_command bytes ≡ Ok (c, rest))
    (is-next : next ≡ count + 1) (have : HaveAdded changes count bytes out whole later up_to_end) where
  abbrev behind : List Command
  behind = have.before ++ c ∷ []

  same-last : AreLast changes (behind ++ (commands_in rest ++ later))
  same-last =
      subst (AreLast changes) (ap (λ (cs : List Command). have.before ++ (cs ++ later)) (next-in bytes rest c some read) ∙ sym (append_assoc have.before (c ∷ []) (commands_in rest ++ later))) have.last

  same-commands : behind ++ commands_in rest ≡ up_to_end
  same-commands = append_assoc have.before (c ∷ []) (commands_in rest) ∙ ap (λ (cs : List Command). have.before ++ cs) (sym (next-in bytes rest c some read)) ∙ have.commands

  count-behind : next ≡ length behind
  count-behind = omega (arith, is-next, have.counted, length-append have.before (c ∷ []))

  -- where a later command undoes it, the last one that does comes after it
  is-last : last_noted c changes.last ≡ last_undoing c (behind ++ (commands_in rest ++ later))
  is-last = same-last.undoing c

  pub add_kept : (more : List ℕ) → (last_noted c changes.last ≤ next) → more ≡ out ++ take (length bytes - length rest) bytes → HaveAdded changes (next) rest more whole later up_to_end
  add_kept more early is = go (is_undone (commands_in rest ++ later) c) refl
    where
      go : (t : Bool) → is_undone (commands_in rest ++ later) c ≡ t → HaveAdded changes (next) rest more whole later up_to_end
      go true e = absurd (omega (arith, undone_late c behind (commands_in rest ++ later) e, is-last, count-behind, early))
      go false e = record {
        before = behind;
        last = same-last;
        counted = count-behind;
        commands = same-commands;
        bytes =
            ap (λ (o : List ℕ). o ++ compacted_batch rest later) is
            ∙ append_assoc out (take (length bytes - length rest) bytes) (compacted_batch rest later)
            ∙ ap (λ (o : List ℕ). out ++ o) (sym (next-left bytes rest later c some read ∙ ap (λ (t : Bool). (if t then [] else take (length bytes - length rest) bytes) ++ compacted_batch rest later) e))
            ∙ have.bytes;
      }

  pub add_left_out : next < last_noted c changes.last → HaveAdded changes (next) rest out whole later up_to_end
  add_left_out late = go (is_undone (commands_in rest ++ later) c) refl
    where
      go : (t : Bool) → is_undone (commands_in rest ++ later) c ≡ t → HaveAdded changes (next) rest out whole later up_to_end
      go false e = absurd (omega (arith, not_late c behind (commands_in rest ++ later) e, is-last, count-behind, late))
      go true e = record {
        before = behind;
        last = same-last;
        counted = count-behind;
        commands = same-commands;
        bytes =
            ap (λ (o : List ℕ). out ++ o) (sym (next-left bytes rest later c some read ∙ ap (λ (t : Bool). (if t then [] else take (length bytes - length rest) bytes) ++ compacted_batch rest later) e))
            ∙ have.bytes;
      }

pub add_last : (changes : Changes) (count : ℕ) (rest out whole : List ℕ) (later up_to_end : List Command) → commands_in rest ≡ [] → compacted_batch rest later ≡ []
    → HaveAdded changes count rest out whole later up_to_end → (out ≡ whole) × (count ≡ length up_to_end)
add_last changes count rest out whole later up_to_end none nothing have = (
  sym (append-nil out) ∙ ap (λ (o : List ℕ). out ++ o) (sym nothing) ∙ have.bytes,
  have.counted ∙ ap length (sym (append-nil have.before) ∙ ap (λ (cs : List Command). have.before ++ cs) (sym none) ∙ have.commands),
)
