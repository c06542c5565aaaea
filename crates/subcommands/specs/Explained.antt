-- The fault of a mapfile with the message on it (docs/MAPFILE.md, "Faults in words").
use Rattle.std.specs.Prelude.{◌≡◌, ◌⊎◌, ◌++◌, Bool, true, false, ℕ, List, Option, None, Some, IfSome, Ok, Err}
use Rattle.maplex.specs.Lexed.{lexed}
use Rattle.maptree.specs.declared.tree.MapTree.{MapTree}
use Rattle.maptree.specs.Source.{tree_of}
use Rattle.mapwords.specs.declared.fault.Fault.{Fault}
use Rattle.mapwords.specs.declared.fault.ParseFault.{ParseFault}
use Rattle.mapwords.specs.declared.fault.ParseFault.TheVariants.{At, NoMemory}
use Rattle.mapwords.specs.declared.fault.ParseKind.TheVariants.{MissingFile}
use Rattle.mapparse.specs.declared.files.FileBytes.{FileBytes}
use Rattle.mapparse.specs.Uses.{uses_of}
use Rattle.mapfaults.specs.Missing.{AreOnFiles, NamesMissing, first_missing}
use Rattle.subcommands.specs.Folder.{Giving, ComesTo, IsPathOf}
use Rattle.subcommands.specs.Reports.{place_message}
use Rattle.subcommands.specs.declared.unread.UnreadCause.{UnreadCause}
use Rattle.subcommands.specs.declared.map_fault.MapFault.{MapFault}
use Rattle.subcommands.specs.declared.map_fault.MapFault.TheVariants as unmapped

-- a text says where the file of a name was looked for, and why it can't be read
pub record IsPlaceOf (name text : List ℕ) : Type 0 where
  pub path : List ℕ
  pub is_path : IsPathOf name path
  pub cause : UnreadCause
  pub says : text ≡ place_message path cause

-- a text says where the first missing file of a mapfile was looked for
pub record IsPlaceIn (files : List FileBytes) (tree : MapTree) (text : List ℕ) : Type 0 where
  pub name : List ℕ
  pub is_first : first_missing files (uses_of tree) ≡ Some name
  pub place : IsPlaceOf name text

-- a message on the first used of the files that have a fault is followed by where the first missing one was looked for
pub record AreFollowed (files : List FileBytes) (tree : MapTree) (message : List ℕ) : Type 0 where
  pub first : List ℕ
  pub on : AreOnFiles files tree first
  pub more : List ℕ
  pub place : IsPlaceIn files tree more
  pub says : message ≡ first ++ more

-- a message is on the first used of the files that have a fault, and may say where a missing one was looked for
abbrev pub AreOnFilesOf : List FileBytes → MapTree → List ℕ → Type 0
AreOnFilesOf files tree message = AreOnFiles files tree message ⊎ AreFollowed files tree message

-- a message names the first missing file, and says where it was looked for
pub record NamesPlace (files : List FileBytes) (tree : MapTree) (message : List ℕ) : Type 0 where
  pub first : List ℕ
  pub names : NamesMissing files tree first
  pub more : List ℕ
  pub place : IsPlaceOf names.name more
  pub says : message ≡ first ++ more

-- a message names the first file that a mapfile uses and that isn't among these, and may say where it was looked for
pub record NamesFirst (files : List FileBytes) (mapfile message : List ℕ) : Type 0 where
  pub tree : MapTree
  pub is_read : tree_of (lexed mapfile) ≡ Ok tree
  pub names : NamesMissing files tree message ⊎ NamesPlace files tree message

-- a mapfile has this fault with the files of a folder, and this message is on it. There is none where `explains` is false, or where memory was
-- refused for it; the message on a file that can't be read names it
pub record IsExplained (gives : Giving) (explains : Bool) (mapfile : List ℕ) (fault : Fault) (message : Option (List ℕ)) : Type 0 where
  pub is_fault : ComesTo gives mapfile (Err fault)
  pub unasked : explains ≡ false → message ≡ None
  pub named : fault.kind ≡ MissingFile → IfSome message (NamesFirst is_fault.files mapfile)

-- why a mapfile gives no map: its fault, or memory was refused
abbrev pub IsMapFault : Giving → Bool → List ℕ → MapFault → Type 0
IsMapFault gives explains mapfile (unmapped.Faulty fault message) = IsExplained gives explains mapfile fault message
IsMapFault gives explains mapfile unmapped.NoMemory = Unit {0}

-- a fault is that of a file that can't be read
abbrev pub has_missing : ParseFault → Bool
has_missing (At line MissingFile) = true
has_missing fault = false

-- a fault with the message on it
abbrev pub with_message : ParseFault → Option (List ℕ) → MapFault
with_message (At line kind) message = unmapped.Faulty (record { line = line; kind = kind }) message
with_message NoMemory message = unmapped.NoMemory
