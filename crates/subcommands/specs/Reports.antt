-- Reports of faults (docs/SERVICE.md, "The program" and "Sessions").
use Rattle.std.specs.Prelude.{ℕ, Bool, true, false, List, ◌++◌, codes}
use Rattle.std.specs.Fmt.{decimal}
use Rattle.console.specs.Console.{WriterState, IsReported}
use Rattle.subcommands.specs.declared.unread.UnreadCause.{UnreadCause}
use Rattle.subcommands.specs.declared.unread.UnreadCause.TheVariants.{Missing, NotAllowed, Other}

-- why a file can't be read, in a message that follows its name
unfoldable pub cause_message : UnreadCause → List ℕ
cause_message Missing = codes ": the file is missing\n"
cause_message NotAllowed = codes ": the file may not be read\n"
cause_message Other = codes ": the file can't be read\n"

-- why a file that a mapfile names can't be read, in a message that follows its path
unfoldable pub place_words : UnreadCause → List ℕ
place_words Missing = codes " is missing"
place_words NotAllowed = codes " may not be read"
place_words Other = codes " can't be read"

-- where a file was looked for, and why it can't be read, in a message that follows another one
abbrev pub place_message : List ℕ → UnreadCause → List ℕ
place_message path cause = codes ": " ++ (path ++ place_words cause)

-- a file that is read by its name, and the causes for which it may not be read
pub record ReadFile : Type 1 where
  pub name : List ℕ
  pub unread_for : UnreadCause → Type 0

-- a file that can't be read, by its name; where `explains` is true, a second line says why
abbrev pub file_fault : Bool → List ℕ → UnreadCause → List ℕ
file_fault false name cause = codes "fault file " ++ (name ++ codes "\n")
file_fault true name cause = codes "fault file " ++ (name ++ (codes "\n" ++ (name ++ cause_message cause)))

-- that was reported, with a cause for which it may not be read
abbrev pub IsFileReported : Bool → ReadFile → WriterState → WriterState → Type 0
IsFileReported explains file old new = (cause : UnreadCause) × file.unread_for cause × IsReported old new (file_fault explains file.name cause)

-- the fault of a mapfile, by its line and the number of its kind
abbrev pub mapfile_fault : ℕ → ℕ → List ℕ
mapfile_fault line kind = codes "fault line " ++ (decimal line ++ (codes " kind " ++ (decimal kind ++ codes "\n")))
