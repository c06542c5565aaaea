-- The message on a file that a mapfile names and that can't be read (docs/MAPFILE.md, "Faults in words").
use Rattle.std.specs.Prelude.{◌≡◌, ◌==◌, ◌&&◌, ◌||◌, if◌then◌else◌, ℕ, nat_lt, Bool, false, List, [], ◌∷◌, ◌++◌, find, Option, Some, codes}
use Rattle.std.specs.Option.{is_none}
use Rattle.maptree.specs.declared.tree.MapTree.{MapTree}
use Rattle.mapparse.specs.declared.fault.FileCause.{FileCause}
use Rattle.mapparse.specs.declared.fault.FileCause.TheVariants.{Missing}
use Rattle.mapparse.specs.declared.fault.FileFault.{FileFault}
use Rattle.mapparse.specs.declared.files.FileBytes.{FileBytes}
use Rattle.mapparse.specs.Fault.{fault_in}
use Rattle.mapparse.specs.Files.{bytes_in}
use Rattle.mapparse.specs.Uses.{files_fault, uses_of}

-- the byte is a character below U+0020, or U+007F
abbrev pub is_control_byte : ℕ → Bool
is_control_byte b = nat_lt b 32 || (b == 127)

-- the bytes begin with a character from U+0080 to U+009F
abbrev pub begins_with_late_control : List ℕ → Bool
begins_with_late_control (a ∷ (b ∷ bs)) = (a == 194) && nat_lt b 160
begins_with_late_control _ = false

-- a name has a control character
abbrev pub has_control : List ℕ → Bool
has_control [] = false
has_control (b ∷ bs) = is_control_byte b || begins_with_late_control (b ∷ bs) || has_control bs

-- the message on a file that can't be read, by its name and the keyword that names it; a name with a control character isn't shown
abbrev pub missing_message : List ℕ → List ℕ → List ℕ
missing_message name keyword =
    if has_control name
    then codes "the file that " ++ (keyword ++ codes " names can't be read")
    else codes "the file " ++ (name ++ (codes ", which " ++ (keyword ++ codes " names, can't be read")))

-- a file is missing
abbrev pub is_missing : List FileBytes → List ℕ → Bool
is_missing files name = is_none (bytes_in name files)

-- the first of some files that is missing
abbrev pub first_missing : List FileBytes → List (List ℕ) → Option (List ℕ)
first_missing files names = find (is_missing files) names

-- a message names the first missing file that a mapfile uses
pub record NamesMissing (files : List FileBytes) (tree : MapTree) (message : List ℕ) : Type 0 where
  pub name : List ℕ
  pub is_first : first_missing files (uses_of tree) ≡ Some name
  pub keyword : List ℕ
  pub says : message ≡ missing_message name keyword

-- a message is on a file that has this cause: it names a file that is missing; what it says of another cause has no definition
abbrev pub AreOnCause : FileCause → List FileBytes → MapTree → List ℕ → Type 0
AreOnCause Missing files tree message = NamesMissing files tree message
AreOnCause cause files tree message = Unit {0}

-- a message is on the first used of the files that have a fault
pub record AreOnFiles (files : List FileBytes) (tree : MapTree) (message : List ℕ) : Type 0 where
  pub fault : FileFault
  pub is_first : files_fault files tree ≡ Some (fault_in fault)
  pub on : AreOnCause fault.cause files tree message
