-- The files of a mapfile, and the folder that they are in (docs/SERVICE.md, "The program").
use Rattle.std.specs.Prelude.{◌≡◌, ◌≢◌, ◌==◌, ◌⊎◌, if◌then◌else◌, ℕ, List, [], ◌∷◌, ◌++◌, All, Option, None, Some, Result, Ok, codes}
use Rattle.mapdefs.specs.declared.map.MapFields.{MapFields}
use Rattle.mapwords.specs.declared.fault.Fault.{Fault}
use Rattle.mapparse.specs.declared.files.FileBytes.{FileBytes}
use Rattle.mapparse.specs.Files.{with_file}
use Rattle.mapparse.specs.Parsed.{wanted, parsed}

-- a path is a parent and the name of a file: the name has no slash, and the parent is empty or ends in one
pub record IsParent (path parent : List ℕ) : Type 0 where
  pub name : List ℕ
  pub parts : path ≡ parent ++ name
  pub plain : All (λ b. b ≢ 47) name
  pub slash : (parent ≡ []) ⊎ ((folder : List ℕ) × (parent ≡ folder ++ codes "/"))

-- the prefix of a name in its path: the parent of the folder's files, but the empty one for a name that begins with a slash
abbrev pub parent_before : List ℕ → List ℕ → List ℕ
parent_before parent [] = parent
parent_before parent (b ∷ bs) = if b == 47 then [] else parent

-- the path of a name in a folder whose files have that parent
abbrev pub path_of : List ℕ → List ℕ → List ℕ
path_of parent name = parent_before parent name ++ name

-- a path is that of a name in some folder
pub record IsPathOf (name path : List ℕ) : Type 0 where
  pub parent : List ℕ
  pub is : path ≡ path_of parent name

-- the content of a folder by names: bytes, or none
abbrev pub Giving : Type 1
Giving = List ℕ → Option (List ℕ) → Type 0

-- the files of these names, without those that the folder doesn't have
pub data FilesOf (gives : Giving) : List (List ℕ) → List FileBytes → Type 0 where
  none : FilesOf gives [] []
  given : (names : List (List ℕ)) (files : List FileBytes) (name bytes : List ℕ) → FilesOf gives names files → gives name (Some bytes) →
      FilesOf gives (names ++ name ∷ []) (with_file name bytes files)
  missing : (names : List (List ℕ)) (files : List FileBytes) (name : List ℕ) → FilesOf gives names files → gives name None →
      FilesOf gives (names ++ name ∷ []) files

-- a mapfile gives this map, or has this fault, with the files of a folder that it uses
pub record ComesTo (gives : Giving) (mapfile : List ℕ) (map : Result MapFields Fault) : Type 0 where
  pub files : List FileBytes
  pub are : (names : List (List ℕ)) → wanted mapfile ≡ Ok names → FilesOf gives names files
  pub is : parsed files mapfile ≡ map
