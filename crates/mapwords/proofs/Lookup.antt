-- A keyword is found by its spelling in a table of both.
use Rattle.std.proofs.Common.{◌≡◌, ℕ, Bool, true, false, List, [], ◌∷◌, refl, ap, ◌∙◌, Bor, Option}
use Rattle.std.specs.Prelude.{find, map, option_map}
use Rattle.std.specs.Str.{str_eq_ignore_ascii_case}
use Rattle.mapwords.specs.declared.keyword.Keyword.{Keyword}
use Rattle.mapwords.specs.Keyword.{is_spelt, plain, spelt}

module _ (text : List ℕ) where
  -- a search in a table of borrowed texts is one in the table of the texts
  by-text : (pairs : List (Keyword × Bor (List ℕ))) →
      option_map (λ (pair : Keyword × Bor (List ℕ)). pair.0) (find (λ (pair : Keyword × Bor (List ℕ)). str_eq_ignore_ascii_case text pair.1.now) pairs)
      ≡ option_map (λ (pair : Keyword × List ℕ). pair.0) (find (λ (pair : Keyword × List ℕ). str_eq_ignore_ascii_case text pair.1) (map plain pairs))
  by-text [] = refl
  by-text (pair ∷ pairs) = at (str_eq_ignore_ascii_case text pair.1.now) refl (by-text pairs)
    where
      at : (same : Bool) → str_eq_ignore_ascii_case text pair.1.now ≡ same →
          option_map (λ (p : Keyword × Bor (List ℕ)). p.0) (find (λ (p : Keyword × Bor (List ℕ)). str_eq_ignore_ascii_case text p.1.now) pairs)
          ≡ option_map (λ (p : Keyword × List ℕ). p.0) (find (λ (p : Keyword × List ℕ). str_eq_ignore_ascii_case text p.1) (map plain pairs)) →
          option_map (λ (p : Keyword × Bor (List ℕ)). p.0) (find (λ (p : Keyword × Bor (List ℕ)). str_eq_ignore_ascii_case text p.1.now) (pair ∷ pairs))
          ≡ option_map (λ (p : Keyword × List ℕ). p.0) (find (λ (p : Keyword × List ℕ). str_eq_ignore_ascii_case text p.1) (map plain (pair ∷ pairs)))
      at true is rest = rw is refl
      at false is rest = rw is rest

  -- a search in the table of some keywords finds the first that the text is
  by-spelling : (keywords : List Keyword) → option_map (λ (pair : Keyword × List ℕ). pair.0) (find (λ (pair : Keyword × List ℕ). str_eq_ignore_ascii_case text pair.1) (map spelt keywords)) ≡ find (is_spelt text) keywords
  by-spelling [] = refl
  by-spelling (k ∷ keywords) = at (is_spelt text k) refl (by-spelling keywords)
    where
      at : (same : Bool) → is_spelt text k ≡ same →
          option_map (λ (p : Keyword × List ℕ). p.0) (find (λ (p : Keyword × List ℕ). str_eq_ignore_ascii_case text p.1) (map spelt keywords)) ≡ find (is_spelt text) keywords →
          option_map (λ (p : Keyword × List ℕ). p.0) (find (λ (p : Keyword × List ℕ). str_eq_ignore_ascii_case text p.1) (map spelt (k ∷ keywords))) ≡ find (is_spelt text) (k ∷ keywords)
      at true is rest = rw is refl
      at false is rest = rw is rest

  pub found-in-table : (keywords : List Keyword) (pairs : List (Keyword × Bor (List ℕ))) (found : Option (Keyword × Bor (List ℕ))) →
      found ≡ find (λ (pair : Keyword × Bor (List ℕ)). str_eq_ignore_ascii_case text pair.1.now) pairs → map plain pairs ≡ map spelt keywords →
      option_map (λ (pair : Keyword × Bor (List ℕ)). pair.0) found ≡ find (is_spelt text) keywords
  found-in-table keywords pairs found is same =
      ap (option_map (λ (pair : Keyword × Bor (List ℕ)). pair.0)) is
      ∙ by-text pairs
      ∙ ap (λ table. option_map (λ (pair : Keyword × List ℕ). pair.0) (find (λ (pair : Keyword × List ℕ). str_eq_ignore_ascii_case text pair.1) table)) same
      ∙ by-spelling keywords
