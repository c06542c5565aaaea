-- What is left of a batch is read as the commands that are left.
use Rattle.std.proofs.Common.{◌≡◌, ◌∙◌, ℕ, zero, suc, ◌+◌, ◌-◌, ◌≤◌, Bool, true, false, if◌then◌else◌, List, [], ◌∷◌, ◌++◌, length, map, take, None, Result, Ok, Err, refl, sym, ap, arith, length-append, append_assoc}
use Rattle.std.proofs.Math.Seq.{take-append_seam}
use Rattle.std.proofs.lemmas.List.{append-nil}
use Rattle.batches.specs.Command.{Reading, first_command, reading_of, reading_within, with_command}
use Rattle.batches.specs.Command as batch
use Rattle.batches.specs.declared.command.Command.{Command}
use Rattle.batches.specs.declared.command.CommandFault.{CommandFault}
use Rattle.batches.proofs.Leading.{reading-step}
use Rattle.compaction.specs.Undone.{is_undone}
use Rattle.compaction.specs.Compacted.{Written, commands_in, commands_of, compacted, compacted_batch, left_of, step, with_batch, written_of, written_within}
use Rattle.compaction.proofs.Cutting.{first_cut}
use Rattle.compaction.proofs.Dropping.{left}

-- the commands that neither later ones among them nor those that follow them undo
abbrev pub left_before : List Command → List Command → List Command
left_before [] later = []
left_before (c ∷ cs) later = if is_undone (cs ++ later) c then left_before cs later else c ∷ left_before cs later

abbrev pub command_of : Written → Command
command_of w = w.command

-- the bytes of a command give it, whatever follows them
abbrev pub IsRead : Written → Type 0
IsRead w = (more : List ℕ) → first_command (w.bytes ++ more) ≡ Ok (w.command, more)

abbrev pub AreRead : List Written → Type 0
AreRead [] = Unit {0}
AreRead (w ∷ ws) = IsRead w × AreRead ws

-- the bytes before the rest are those that were cut off
pub taken : (bytes front rest : List ℕ) → bytes ≡ front ++ rest → take (length bytes - length rest) bytes ≡ front
taken bytes front rest whole =
    let count : length bytes - length rest ≡ length front = omega (arith, ap length whole, length-append front rest) in
    rw count (rw whole (take-append_seam front rest))

-- the commands as they stand in a batch are those of its reading
pub same_commands : (n : ℕ) (bytes : List ℕ) → map command_of (written_within n bytes) ≡ (reading_within n bytes).commands
unfolding written_within reading_within
same_commands n [] = refl
same_commands zero (b ∷ bs) = refl
same_commands (suc n) (b ∷ bs) = go (first_command (b ∷ bs)) (same_commands n)
  where
    go : (r : Result (Command × List ℕ) CommandFault) → ((rest : List ℕ) → map command_of (written_within n rest) ≡ (reading_within n rest).commands)
        → map command_of (step (b ∷ bs) r (written_within n)) ≡ (batch.step r (reading_within n)).commands
    go (Ok read) others = ap (λ (cs : List Command). read.0 ∷ cs) (others read.1)
    go (Err fault) others = refl

pub are_read : (n : ℕ) (bytes : List ℕ) → AreRead (written_within n bytes)
unfolding written_within
are_read n [] = tt
are_read zero (b ∷ bs) = tt
are_read (suc n) (b ∷ bs) = go (first_command (b ∷ bs)) refl (are_read n)
  where
    go : (r : Result (Command × List ℕ) CommandFault) → first_command (b ∷ bs) ≡ r → ((rest : List ℕ) → AreRead (written_within n rest)) → AreRead (step (b ∷ bs) r (written_within n))
    go (Err fault) e others = tt
    go (Ok read) e others =
        let cut = first_cut (b ∷ bs) read.1 read.0 e in
        (λ more. ap (λ (x : List ℕ). first_command (x ++ more)) (taken (b ∷ bs) cut.0 read.1 cut.1.whole) ∙ cut.1.read more, others read.1)

-- a command has a byte
pub has-byte : (bytes : List ℕ) (r : Command × List ℕ) → first_command bytes ≡ Ok r → 1 ≤ length bytes
has-byte [] r h = absurd (cc)
has-byte (b ∷ bs) r h = omega arith

pub read-next : (w : Written) (more : List ℕ) → IsRead w → reading_of (w.bytes ++ more) ≡ with_command w.command (reading_of more)
read-next w more is =
    reading-step (w.bytes ++ more) (has-byte (w.bytes ++ more) (w.command, more) (is more))
    ∙ ap (λ (r : Result (Command × List ℕ) CommandFault). batch.step r reading_of) (is more)

pub left_reads : (ws : List Written) → AreRead ws → (later : List Command) → reading_of (left_of ws later) ≡ record { commands = left_before (map command_of ws) later; wrong = None }
unfolding reading_within
left_reads [] are later = refl
left_reads (w ∷ ws) (is, are) later = go (is_undone (map command_of ws ++ later) w.command) refl (left_reads ws are later)
  where
    go : (t : Bool) → is_undone (map command_of ws ++ later) w.command ≡ t
        → reading_of (left_of ws later) ≡ record { commands = left_before (map command_of ws) later; wrong = None }
        → reading_of (left_of (w ∷ ws) later) ≡ record { commands = left_before (map command_of (w ∷ ws)) later; wrong = None }
    go true e others = rw e others
    go false e others = rw e (read-next w (left_of ws later) is ∙ ap (with_command w.command) others)

-- what is left of a batch is read whole
pub batch_reads : (bytes : List ℕ) (later : List Command) → reading_of (compacted_batch bytes later) ≡ record { commands = left_before (commands_in bytes) later; wrong = None }
batch_reads bytes later =
    left_reads (written_of bytes) (are_read (length bytes) bytes) later
    ∙ ap (λ (cs : List Command). record { commands = left_before cs later; wrong = None }) (same_commands (length bytes) bytes)

pub left_before-append : (a b later : List Command) → left_before (a ++ b) later ≡ left_before a (b ++ later) ++ left_before b later
left_before-append [] b later = refl
left_before-append (c ∷ a) b later = go (is_undone (a ++ (b ++ later)) c) refl (left_before-append a b later)
  where
    same : is_undone ((a ++ b) ++ later) c ≡ is_undone (a ++ (b ++ later)) c
    same = ap (λ (cs : List Command). is_undone cs c) (append_assoc a b later)

    go : (t : Bool) → is_undone (a ++ (b ++ later)) c ≡ t → left_before (a ++ b) later ≡ left_before a (b ++ later) ++ left_before b later
        → left_before (c ∷ a ++ b) later ≡ left_before (c ∷ a) (b ++ later) ++ left_before b later
    go true e others = rw (same, e) others
    go false e others = rw (same, e) (ap (λ (cs : List Command). c ∷ cs) others)

pub left_before-none : (cs : List Command) → left_before cs [] ≡ left cs
left_before-none [] = refl
left_before-none (c ∷ cs) = go (is_undone cs c) refl (left_before-none cs)
  where
    same : is_undone (cs ++ []) c ≡ is_undone cs c
    same = ap (λ (l : List Command). is_undone l c) (append-nil cs)

    go : (t : Bool) → is_undone cs c ≡ t → left_before cs [] ≡ left cs → left_before (c ∷ cs) [] ≡ left (c ∷ cs)
    go true e others = rw (same, e) others
    go false e others = rw (same, e) (ap (λ (l : List Command). c ∷ l) others)

pub with_batch-commands : (b : List ℕ) (bs : List (List ℕ)) → commands_of (with_batch b bs) ≡ commands_in b ++ commands_of bs
unfolding reading_within
with_batch-commands [] bs = refl
with_batch-commands (x ∷ b) bs = refl

-- the commands of compacted batches
pub commands_left : (batches : List (List ℕ)) → commands_of (compacted batches) ≡ left_before (commands_of batches) []
commands_left [] = refl
commands_left (b ∷ bs) =
    with_batch-commands (compacted_batch b (commands_of bs)) (compacted bs)
    ∙ ap (λ (r : Reading). r.commands ++ commands_of (compacted bs)) (batch_reads b (commands_of bs))
    ∙ ap (λ (cs : List Command). left_before (commands_in b) (commands_of bs) ++ cs) (commands_left bs)
    ∙ ap (λ (cs : List Command). left_before (commands_in b) cs ++ left_before (commands_of bs) []) (sym (append-nil (commands_of bs)))
    ∙ sym (left_before-append (commands_in b) (commands_of bs) [])

-- what is left isn't longer
pub left_shorter : (n : ℕ) (bytes : List ℕ) (later : List Command) → length (left_of (written_within n bytes) later) ≤ length bytes
unfolding written_within
left_shorter n [] later = omega arith
left_shorter zero (b ∷ bs) later = omega arith
left_shorter (suc n) (b ∷ bs) later = go (first_command (b ∷ bs)) refl (left_shorter n)
  where
    go : (r : Result (Command × List ℕ) CommandFault) → first_command (b ∷ bs) ≡ r → ((rest : List ℕ) (later : List Command) → length (left_of (written_within n rest) later) ≤ length rest)
        → length (left_of (step (b ∷ bs) r (written_within n)) later) ≤ length (b ∷ bs)
    go (Err fault) e others = omega arith
    go (Ok read) e others = by (is_undone (map command_of (written_within n read.1) ++ later) read.0) refl
      where
        front : List ℕ
        front = take (length (b ∷ bs) - length read.1) (b ∷ bs)

        rest_left : List ℕ
        rest_left = left_of (written_within n read.1) later

        len : length front + length read.1 ≡ length (b ∷ bs)
        len =
            let cut = first_cut (b ∷ bs) read.1 read.0 e in
            omega (arith, ap length (taken (b ∷ bs) cut.0 read.1 cut.1.whole), ap length cut.1.whole, length-append cut.0 read.1)

        by : (t : Bool) → is_undone (map command_of (written_within n read.1) ++ later) read.0 ≡ t → length ((if t then [] else front) ++ rest_left) ≤ length (b ∷ bs)
        by true f = omega (arith, len, others read.1 later)
        by false f = omega (arith, len, others read.1 later, length-append front rest_left)

pub not_longer : (bytes : List ℕ) (later : List Command) → length (compacted_batch bytes later) ≤ length bytes
not_longer bytes later = left_shorter (length bytes) bytes later
