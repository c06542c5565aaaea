-- Batches without the commands that later ones undo (docs/SERVICE.md, "Journal").
use Rattle.std.specs.Prelude.{ℕ, zero, suc, ◌+◌, ◌-◌, if◌then◌else◌, List, [], ◌∷◌, ◌++◌, length, map, take, Result, Ok, Err}
use Rattle.std.specs.List.{flat_map}
use Rattle.batches.specs.Batch.{State}
use Rattle.batches.specs.Command.{first_command, reading_of}
use Rattle.batches.specs.declared.command.Command.{Command}
use Rattle.batches.specs.declared.command.CommandFault.{CommandFault}
use Rattle.compaction.specs.Undone.{is_undone}

-- a command, and its bytes in a batch
pub record Written : Type 0 where
  pub command : Command
  pub bytes : List ℕ

-- the command that was read from some bytes, and those that are read after it
abbrev pub step : List ℕ → Result (Command × List ℕ) CommandFault → (List ℕ → List Written) → List Written
step bytes (Ok read) others = record { command = read.0; bytes = take (length bytes - length read.1) bytes } ∷ others read.1
step bytes (Err fault) others = []

-- the same, within so many commands
unfoldable pub written_within : ℕ → List ℕ → List Written
written_within n [] = []
written_within zero (b ∷ bs) = []
written_within (suc n) (b ∷ bs) = step (b ∷ bs) (first_command (b ∷ bs)) (written_within n)

-- the commands of a batch as they stand in it, up to the first that can't be read
abbrev pub written_of : List ℕ → List Written
written_of batch = written_within (length batch) batch

-- the commands of a batch
abbrev pub commands_in : List ℕ → List Command
commands_in batch = (reading_of batch).commands

-- the commands of some batches, one after the other
abbrev pub commands_of : List (List ℕ) → List Command
commands_of batches = flat_map commands_in batches

-- the bytes of the commands that neither a later one of them nor one of those that come after all of them undoes
abbrev pub left_of : List Written → List Command → List ℕ
left_of [] later = []
left_of (written ∷ more) later =
    (if is_undone (map (λ (w : Written). w.command) more ++ later) written.command then [] else written.bytes) ++ left_of more later

-- what is left of a batch that these commands follow
abbrev pub compacted_batch : List ℕ → List Command → List ℕ
compacted_batch batch later = left_of (written_of batch) later

-- a batch of which nothing is left is left out
abbrev pub with_batch : List ℕ → List (List ℕ) → List (List ℕ)
with_batch [] batches = batches
with_batch (b ∷ bs) batches = (b ∷ bs) ∷ batches

-- batches without the commands that later ones undo, and without those of which nothing is left
abbrev pub compacted : List (List ℕ) → List (List ℕ)
compacted [] = []
compacted (batch ∷ batches) = with_batch (compacted_batch batch (commands_of batches)) (compacted batches)

-- the state with so many batches more that were published
abbrev pub skipping : ℕ → State → State
skipping skipped s = record { map = s.map; sequence = s.sequence + skipped }
