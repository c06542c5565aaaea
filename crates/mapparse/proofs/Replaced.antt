-- A file replaces an earlier one of its name.
use Rattle.std.proofs.Common.{◌≡◌, ℕ, ◌+◌, ◌<◌, true, List, ◌∷◌, ◌++◌, length, get_or, take, drop, refl, sym, ap, ◌∙◌, add-one, drop-cons, slice_set}
use Rattle.std.proofs.lemmas.List.{take-append-drop, take-set, drop-set}
use Rattle.mapparse.specs.declared.files.FileBytes.{FileBytes}
use Rattle.mapparse.specs.Files.{has_name, with_file}

-- a list with another element at an index
set-parts : (files : List FileBytes) (i : ℕ) (file : FileBytes) → i < length files → slice_set files i file ≡ take i files ++ file ∷ drop (i + 1) files
set-parts files i file below =
    sym (take-append-drop i (slice_set files i file))
    ∙ ap (λ front. front ++ drop i (slice_set files i file)) (take-set files i file)
    ∙ ap (λ back. take i files ++ back) (drop-set files i file below)

pub replaced : (name bytes : List ℕ) (files : List FileBytes) (i : ℕ) (file : FileBytes) → i < length files → file ≡ get_or files i file → has_name name file ≡ true →
    slice_set files i (record file { bytes = bytes }) ≡ take i files ++ with_file name bytes (drop i files)
replaced name bytes files i file below e is =
    set-parts files i (record file { bytes = bytes }) below
    ∙ ap (λ back. take i files ++ back) (rw (add-one, drop-cons files i file below, ← e, is) refl)

-- an element is the same, however it was read
pub same-element : (files : List FileBytes) (i : ℕ) (file seen : FileBytes) → i < length files → file ≡ get_or files i file → seen ≡ get_or files i seen → file ≡ seen
same-element files i file seen below p q =
    p ∙ ap (λ l. get_or l 0 file) (sym (drop-cons files i file below) ∙ drop-cons files i seen below) ∙ sym q
