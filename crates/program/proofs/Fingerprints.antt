-- The text of which a fingerprint is the digest.
use Rattle.std.proofs.Common.{◌≡◌, ap₂, refl, List, [], ◌∷◌, ◌++◌, map}
use Rattle.std.specs.List.{flat_map}
use Rattle.journal.specs.Fingerprint.{file_message, files_message}
use Rattle.journal.specs.declared.fingerprint.UsedFile.{UsedFile}
use Rattle.mapparse.specs.declared.files.FileBytes.{FileBytes}
use Rattle.program.specs.Journals.{given_message}

-- files that are digested as they are given have one text
pub message-of : (used : List UsedFile) (given : List FileBytes) → map file_message used ≡ map given_message given → files_message used ≡ flat_map given_message given
message-of [] [] same = refl
message-of [] (file ∷ files) same = absurd (cc same)
message-of (file ∷ files) [] same = absurd (cc same)
message-of (file ∷ files) (given ∷ others) same =
    let first : file_message file ≡ given_message given = cc same in
    let rest : map file_message files ≡ map given_message others = cc same in
    ap₂ ◌++◌ first (message-of files others rest)
