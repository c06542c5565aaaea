-- What is left of compacted batches, and where they lead (docs/SERVICE.md, "Journal").
use Rattle.std.specs.Prelude.{◌≡◌, ◌≤◌, ℕ, ◌-◌, Bool, false, List, ◌∷◌, ◌++◌, length, All, None}
use Rattle.std.specs.List.{count_by, list_any}
use Rattle.mapdefs.specs.Name.{is_same_name}
use Rattle.sharing.specs.Shortened.{IsShortOf}
use Rattle.batches.specs.Batch.{accepted}
use Rattle.batches.specs.Command.{reading_of}
use Rattle.batches.specs.declared.command.Command.{Command}
use Rattle.batches.specs.declared.command.Command.TheVariants.{On, Off, Clear, Append}
use Rattle.compaction.specs.Compacted.{commands_of, compacted, compacted_batch, skipping}

-- compacted batches lead to the same map, and with those that are left out to the same sequence
abbrev pub LeadToTheSame : Type 0
LeadToTheSame = (batches : List (List ℕ)) → IsShortOf accepted skipping (length batches - length (compacted batches)) (compacted batches) batches

-- what is left of a batch isn't longer
abbrev pub IsNotLonger : Type 0
IsNotLonger = (batch : List ℕ) (later : List Command) → length (compacted_batch batch later) ≤ length batch

-- it switches the layer of a name on or off
abbrev pub switches : List ℕ → Command → Bool
switches name (On other) = is_same_name name other
switches name (Off other) = is_same_name name other
switches name (Clear other) = false
switches name (Append other table) = false

-- it clears the layer of a name, or appends to it
abbrev pub fills : List ℕ → Command → Bool
fills name (On other) = false
fills name (Off other) = false
fills name (Clear other) = is_same_name name other
fills name (Append other table) = is_same_name name other

-- each layer is switched once at most, and is neither cleared nor appended to before it is cleared
pub record AreCompact (commands : List Command) : Type 0 where
  pub switched : (name : List ℕ) → count_by (switches name) commands ≤ 1
  pub cleared : (earlier later : List Command) (name : List ℕ) → commands ≡ earlier ++ Clear name ∷ later → list_any (fills name) earlier ≡ false

-- a batch has commands, and all of it can be read
pub record IsWhole (batch : List ℕ) : Type 0 where
  pub some : 1 ≤ length batch
  pub read : (reading_of batch).wrong ≡ None

-- the commands of compacted batches are so, and each of these batches has some
abbrev pub BecomeCompact : Type 0
BecomeCompact = (batches : List (List ℕ)) → AreCompact (commands_of (compacted batches)) × All IsWhole (compacted batches)

-- batches whose commands are so are left as they are
abbrev pub AreLeftWhole : Type 0
AreLeftWhole = (batches : List (List ℕ)) → All IsWhole batches → AreCompact (commands_of batches) → compacted batches ≡ batches

-- batches that are compacted once more stay as they are
abbrev pub StayCompact : Type 0
StayCompact = (batches : List (List ℕ)) → compacted (compacted batches) ≡ compacted batches
