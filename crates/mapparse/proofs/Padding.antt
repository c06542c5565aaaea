-- Values that are filled up with empty ones.
use Rattle.std.proofs.Common.{◌≡◌, ℕ, suc, ◌-◌, ◌<◌, ◌≤◌, List, [], ◌∷◌, ◌++◌, length, length-append, append_assoc, append-nil, take, replicate, sym, ap, ◌∙◌, arith}
use Rattle.std.proofs.lemmas.List.{length-replicate, length-take}
use Rattle.std.specs.Prelude.{Option, None, Some}
use Rattle.std.specs.List.{slice_split}
use Rattle.mapparse.specs.Mapping.{is_semicolon, padded, values_of}

module _ (count : ℕ) (xs : List (List ℕ)) where
  -- one more empty value is one of those that are filled up
  pub padded-more : length xs < count → padded count (xs ++ [] ∷ []) ≡ padded count xs
  padded-more below =
      let left : count - length xs ≡ suc (count - length (xs ++ [] ∷ [])) = omega (arith, length-append xs ([] ∷ [])) in
      append_assoc xs ([] ∷ []) (replicate (count - length (xs ++ [] ∷ [])) [])
      ∙ ap (λ n. xs ++ replicate n []) (sym left)

  -- where there are enough, none is filled up
  pub padded-full : count ≤ length xs → padded count xs ≡ xs
  padded-full above =
      let none : count - length xs ≡ 0 = omega arith in
      ap (λ n. xs ++ replicate n []) none ∙ append-nil xs

  -- there are so many
  pub length-padded : length xs ≤ count → length (padded count xs) ≡ count
  length-padded below = omega (arith, length-append xs (replicate (count - length xs) []), length-replicate {A = List ℕ} (count - length xs) [])

-- a feature has as many values as its layer has items
pub length-values : (count : ℕ) (items : Option (List ℕ)) → length (values_of count items) ≡ count
length-values count None = length-padded count [] (omega arith)
length-values count (Some text) =
    length-padded count (take count (slice_split is_semicolon text)) (omega (arith, length-take count (slice_split is_semicolon text)))
