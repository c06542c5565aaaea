-- The last commands that can undo others (docs/SERVICE.md, "Journal").
use Rattle.std.specs.Prelude.{◌≡◌, ℕ, Bool, true, false, ◌&&◌, if◌then◌else◌, List, [], ◌∷◌, ◌++◌, length}
use Rattle.std.specs.Bool.{beq}
use Rattle.mapdefs.specs.Name.{is_same_name}
use Rattle.batches.specs.declared.command.Command.{Command}
use Rattle.batches.specs.declared.command.Command.TheVariants.{On, Off, Clear, Append}
use Rattle.compaction.specs.Compacted.{commands_in}
use Rattle.compaction.specs.Undone.{last_undoing}
use Rattle.compaction.specs.declared.last_changes.LastChange.{LastChange}

-- how many commands there were, and of each layer the last CLEAR, and the last ON or OFF
pub record Changes : Type 0 where
  pub count : ℕ
  pub last : List LastChange

-- the name of the layer that a command changes
abbrev pub name_of : Command → List ℕ
name_of (On name) = name
name_of (Off name) = name
name_of (Clear name) = name
name_of (Append name table) = name

-- it switches a layer, and doesn't change its features
abbrev pub is_switch : Command → Bool
is_switch (On name) = true
is_switch (Off name) = true
is_switch (Clear name) = false
is_switch (Append name table) = false

-- both change the same of the same layer: whether it is on, or its features
abbrev pub is_of : Command → LastChange → Bool
is_of command change = is_same_name change.name (name_of command) && beq change.is_switch (is_switch command)

-- how many commands there were up to the last one noted that undoes this command, or 0
abbrev pub last_noted : Command → List LastChange → ℕ
last_noted command [] = 0
last_noted command (change ∷ others) = if is_of command change then change.count else last_noted command others

-- a command is the last change of its layer from now on, and this is its number
abbrev pub changed : Command → ℕ → List LastChange → List LastChange
changed command count [] = record { name = name_of command; is_switch = is_switch command; count = count } ∷ []
changed command count (change ∷ others) =
    if is_of command change then (record change { count = count }) ∷ others else change ∷ changed command count others

-- the same, but that an APPEND undoes nothing
abbrev pub noting : Command → ℕ → List LastChange → List LastChange
noting (On name) count last = changed (On name) count last
noting (Off name) count last = changed (Off name) count last
noting (Clear name) count last = changed (Clear name) count last
noting (Append name table) count last = last

-- these are the last changes by some commands: for each command, the last of them that undoes it
pub record AreLast (changes : Changes) (commands : List Command) : Type 0 where
  pub counted : changes.count ≡ length commands
  pub undoing : (command : Command) → last_noted command changes.last ≡ last_undoing command commands

-- these are the last changes by some commands, those of a batch, and some later ones
abbrev pub AreLastOf : Changes → List Command → List ℕ → List Command → Type 0
AreLastOf changes earlier batch later = AreLast changes (earlier ++ (commands_in batch ++ later))
