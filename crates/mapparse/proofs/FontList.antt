-- The fonts of a map are read one after the other.
use Rattle.std.proofs.Common.{◌≡◌, ℕ, suc, ◌+◌, ◌<◌, true, false, List, [], ◌∷◌, ◌++◌, length, get_or, drop, drop-cons, add-one, refl, ap}
use Rattle.std.specs.Prelude.{Result, Ok, Err}
use Rattle.std.proofs.lemmas.List.{append_assoc}
use Rattle.mapdefs.specs.declared.font.FontFields.{FontFields}
use Rattle.mapdefs.specs.Outcome.{and_then}
use Rattle.mapwords.specs.declared.fault.Fault.{Fault}
use Rattle.maptree.specs.declared.tree.UsedFile.{UsedFile}
use Rattle.mapparse.specs.declared.files.FileBytes.{FileBytes}
use Rattle.mapparse.specs.Fonts.{font_files, font_in, fonts_in, is_font}

module _ (most : ℕ) (files : List FileBytes) (done : List FontFields) (all : List UsedFile) (i : ℕ) (used : UsedFile) (below : i < length all) (e : used ≡ get_or all i used) where
  joined : (font : FontFields) (r : Result (List FontFields) Fault) →
      and_then r (λ more. Ok ((done ++ font ∷ []) ++ more)) ≡ and_then (and_then r (λ others. Ok (font ∷ others))) (λ more. Ok (done ++ more))
  joined font (Ok others) = ap (λ x. Ok x) (append_assoc done (font ∷ []) others)
  joined font (Err f) = refl

  -- one more font is read
  pub one-more : (font : FontFields) → is_font used ≡ true → font_in most files used.file ≡ Ok font →
      and_then (fonts_in most files (font_files (drop (i + 1) all))) (λ more. Ok ((done ++ font ∷ []) ++ more))
      ≡ and_then (fonts_in most files (font_files (drop i all))) (λ more. Ok (done ++ more))
  one-more font is read =
      rw (add-one, drop-cons all i used below, ← e, is, read) (joined font (fonts_in most files (font_files (drop (suc i) all))))

  -- none is read of a file that is none
  pub one-fault : (f : Fault) → is_font used ≡ true → font_in most files used.file ≡ Err f →
      and_then (fonts_in most files (font_files (drop i all))) (λ more. Ok (done ++ more)) ≡ Err f
  one-fault f is read = rw (drop-cons all i used below, ← e, is, read) refl

  -- a file of another kind is passed over
  pub none-more : is_font used ≡ false → font_files (drop (i + 1) all) ≡ font_files (drop i all)
  none-more is = rw (add-one, drop-cons all i used below, ← e, is) refl
