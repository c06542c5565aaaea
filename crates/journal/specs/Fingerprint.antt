-- The fingerprint of a map: the digest of its mapfile and of the files that it uses (docs/SERVICE.md, "Journal").
use Rattle.std.specs.Prelude.{ℕ, List, [], ◌∷◌, ◌++◌, length, Option, None, Some, option_map}
use Rattle.sha2.specs.Sha256.{sha256}
use Rattle.journal.specs.Record.{sequence_bytes}
use Rattle.journal.specs.declared.fingerprint.UsedFile.{UsedFile}

-- some bytes after their length in 8 bytes
abbrev pub sized : List ℕ → List ℕ
sized bytes = sequence_bytes (length bytes) ++ bytes

-- the content of a file: a 1 and its bytes, or a 0 where the file is missing
abbrev pub content_message : Option (List ℕ) → List ℕ
content_message None = 0 ∷ []
content_message (Some bytes) = 1 ∷ sized bytes

-- a file: its name and its content
abbrev pub file_message : UsedFile → List ℕ
file_message file = sized file.name.now ++ content_message (option_map (λ bytes. bytes.now) file.content)

-- some files, one after the other
abbrev pub files_message : List UsedFile → List ℕ
files_message [] = []
files_message (file ∷ files) = file_message file ++ files_message files

-- the fingerprint: the digest of the mapfile and its files
abbrev pub fingerprint_of : List ℕ → List UsedFile → List ℕ
fingerprint_of mapfile files = sha256 (sized mapfile ++ files_message files)
