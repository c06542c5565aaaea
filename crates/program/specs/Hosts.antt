-- The files that a host gives to the program (docs/SERVICE.md, "The program").
use Rattle.std.specs.Prelude.{◌≡◌, ℕ, List, Option, None, Some, IfSome, ⊤}
use Rattle.std.specs.declared.io.ErrorKind.{ErrorKind}
use Rattle.std.specs.declared.io.ErrorKind.TheVariants.{NotFound, PermissionDenied}
use Rattle.subcommands.specs.Folder.{Giving, path_of}
use Rattle.subcommands.specs.declared.unread.UnreadCause.{UnreadCause}
use Rattle.subcommands.specs.declared.unread.UnreadCause.TheVariants.{Missing, NotAllowed, Other}

-- the rest of a file: all of it before it is opened
abbrev pub left_of : {F : Type 0} → Option (List ℕ) → (F → Option (List ℕ)) → Option F → Option (List ℕ)
left_of whole left None = whole
left_of whole left (Some opened) = left opened

-- the content of a folder by names, by the bytes of the files of paths: those of the name's path. `parent` is the parent of its files
abbrev pub gives_in : (List ℕ → Option (List ℕ)) → List ℕ → Giving
gives_in file parent name None = ⊤
gives_in file parent name (Some bytes) = IfSome (file (path_of parent name)) (λ known. bytes ≡ known)

-- why a file can't be read, by the error of the system
abbrev pub cause_of : ErrorKind → UnreadCause
cause_of NotFound = Missing
cause_of PermissionDenied = NotAllowed
cause_of kind = Other

-- a file can't be read for this cause: its host has such an error for it
abbrev pub IsWithheld : (ErrorKind → Type 0) → UnreadCause → Type 0
IsWithheld withholds cause = (kind : ErrorKind) × withholds kind × (cause ≡ cause_of kind)
