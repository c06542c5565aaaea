-- Which commands later ones undo (docs/SERVICE.md, "Journal").
use Rattle.std.specs.Prelude.{ℕ, suc, Bool, false, if◌then◌else◌, List, [], ◌∷◌}
use Rattle.std.specs.List.{list_any}
use Rattle.mapdefs.specs.Name.{is_same_name}
use Rattle.batches.specs.declared.command.Command.{Command}
use Rattle.batches.specs.declared.command.Command.TheVariants.{On, Off, Clear, Append}

-- the first command comes later than the other and undoes it. They are of the same layer: a CLEAR undoes what was cleared or appended, ON and OFF
-- an ON or OFF
abbrev pub undoes : Command → Command → Bool
undoes (Clear name) (Clear other) = is_same_name name other
undoes (Clear name) (Append other table) = is_same_name name other
undoes (On name) (On other) = is_same_name name other
undoes (On name) (Off other) = is_same_name name other
undoes (Off name) (On other) = is_same_name name other
undoes (Off name) (Off other) = is_same_name name other
undoes later earlier = false

-- one of some later commands undoes it
abbrev pub is_undone : List Command → Command → Bool
is_undone later command = list_any (λ l. undoes l command) later

-- how many commands there are up to the last one that undoes it, or 0 where none does
abbrev pub last_undoing : Command → List Command → ℕ
last_undoing command [] = 0
last_undoing command (first ∷ later) =
    if is_undone later command then suc (last_undoing command later)
    else if undoes first command then 1 else 0
