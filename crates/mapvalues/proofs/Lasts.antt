-- The last of what is looked for is found among those that are it.
use Rattle.std.proofs.Common.{◌≡◌, Bool, true, false, List, [], ◌∷◌, refl, sym, ap, ◌∙◌, Option, None, Some}
use Rattle.std.specs.Prelude.{find, is_some, option_and_then, option_map}
use Rattle.std.specs.Option.{option_or}
use Rattle.mapwords.specs.declared.value.Value.{Value}
use Rattle.mapwords.specs.declared.named.Named.{Named}
use Rattle.mapwords.specs.declared.table.TextKeyword.{TextKeyword}
use Rattle.mapvalues.specs.Values.{last, text_in, words_in}

module _ {A : Type 0} (wanted : Value → Option A) where
  -- one more value
  more : (v : Value) (vs : List Value) (is : Option A) → wanted v ≡ is → last wanted vs ≡ option_and_then wanted (find (λ v. is_some (wanted v)) vs) →
      last wanted (v ∷ vs) ≡ option_and_then wanted (find (λ v. is_some (wanted v)) (v ∷ vs))
  more v vs (Some a) same rest = rw same (sym same)
  more v vs None same rest = rw same rest

  pub last-found : (vs : List Value) → last wanted vs ≡ option_and_then wanted (find (λ v. is_some (wanted v)) vs)
  last-found [] = refl
  last-found (v ∷ vs) = more v vs (wanted v) refl (last-found vs)

  -- where one is found, it is what is looked for
  pub found-last : (vs : List Value) (v : Value) → find (λ v. is_some (wanted v)) vs ≡ Some v → last wanted vs ≡ wanted v
  found-last vs v is = last-found vs ∙ ap (option_and_then wanted) is

  pub none-last : (vs : List Value) → find (λ v. is_some (wanted v)) vs ≡ None → last wanted vs ≡ None
  none-last vs is = last-found vs ∙ ap (option_and_then wanted) is

-- the last text of a keyword is that of its last text with a line
pub words-last : (keyword : TextKeyword) (vs : List Value) → last (words_in keyword) vs ≡ option_map (λ (named : Named). named.text) (last (text_in keyword) vs)
words-last keyword [] = refl
words-last keyword (v ∷ vs) = at (text_in keyword v) (words-last keyword vs)
  where
    at : (is : Option Named) → last (words_in keyword) vs ≡ option_map (λ (named : Named). named.text) (last (text_in keyword) vs) →
        option_or (option_map (λ (named : Named). named.text) is) (last (words_in keyword) vs) ≡ option_map (λ (named : Named). named.text) (option_or is (last (text_in keyword) vs))
    at (Some named) rest = refl
    at None rest = rest
