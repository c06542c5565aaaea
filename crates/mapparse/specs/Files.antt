-- The files that a mapfile may use (docs/MAPFILE.md, "Files").
use Rattle.std.specs.Prelude.{ℕ, Bool, List, [], ◌∷◌, if◌then◌else◌, find, Option, None, Some, option_map, Result, Ok, Err}
use Rattle.mapdefs.specs.Name.{is_same_name}
use Rattle.mapwords.specs.declared.fault.Fault.{Fault}
use Rattle.mapwords.specs.declared.fault.ParseKind.TheVariants.{MissingFile, BadFile}
use Rattle.mapparse.specs.declared.files.FileBytes.{FileBytes}

-- a file has this name
abbrev pub has_name : List ℕ → FileBytes → Bool
has_name name file = is_same_name file.name name

-- the files with one more, which replaces an earlier one of its name
abbrev pub with_file : List ℕ → List ℕ → List FileBytes → List FileBytes
with_file name bytes [] = record { name = name; bytes = bytes } ∷ []
with_file name bytes (file ∷ files) =
    if has_name name file then record file { bytes = bytes } ∷ files else file ∷ with_file name bytes files

-- the bytes of the file of a name
abbrev pub bytes_in : List ℕ → List FileBytes → Option (List ℕ)
bytes_in name files = option_map (λ (file : FileBytes). file.bytes) (find (has_name name) files)

-- a file that isn't of its kind is a fault at the line of its name
abbrev pub unless_bad : {A E : Type 0} → ℕ → Result A E → Result A Fault
unless_bad line (Ok a) = Ok a
unless_bad line (Err e) = Err (record { line = line; kind = BadFile })

-- what is read of a file that is named on a line; one that is missing is a fault there, too
abbrev pub read_from : {A E : Type 0} → (List ℕ → Result A E) → ℕ → Option (List ℕ) → Result A Fault
read_from reading line None = Err (record { line = line; kind = MissingFile })
read_from reading line (Some bytes) = unless_bad line (reading bytes)
