-- The parameters of a query (URL Standard, application/x-www-form-urlencoded; docs/WMS.md, "Queries").
use Rattle.std.specs.Prelude.{◌==◌, ℕ, Bool, List, [], ◌∷◌, map, find, Option, None, Some}
use Rattle.std.specs.List.{slice_split}
use Rattle.std.specs.Option.{option_map, option_and_then}
use Rattle.std.specs.Str.{str_eq_ignore_ascii_case}
use Rattle.std.specs.Str.Lossy.{utf8_lossy}
use Rattle.form_urlencoded.specs.Form.{raw_pairs, decode}
use Rattle.crsaxes.specs.Axes.{is_comma}
use Rattle.wmsquery.specs.declared.fault.Parameter.{Parameter}
use Rattle.wmsquery.specs.Report.{parameter_text}

-- a name of a query and its value, as texts
pub record Pair : Type 0 where
  pub name : List ℕ
  pub value : List ℕ

-- the text that a name or a value stands for: decoded, with a replacement character for each sequence that is not UTF-8
unfoldable pub text_of : List ℕ → List ℕ
text_of bytes = utf8_lossy (decode bytes)

-- a pair as texts
abbrev pub pair_of : List ℕ × List ℕ → Pair
pair_of pair = record { name = text_of pair.0; value = text_of pair.1 }

-- the pairs of a query, in order
abbrev pub pairs_of : List ℕ → List Pair
pairs_of query = map pair_of (raw_pairs query)

-- the value of the first pair with a name, which is compared without case
abbrev pub value_of : List ℕ → List Pair → Option (List ℕ)
value_of name pairs = option_map (λ (pair : Pair). pair.value) (find (λ (pair : Pair). str_eq_ignore_ascii_case pair.name name) pairs)

-- the text of each parameter, where it has one
abbrev pub Texts : Type 0
Texts = Parameter → Option (List ℕ)

-- the text of a parameter is the value of the first pair with its name
abbrev pub texts_of : List Pair → Texts
texts_of pairs p = value_of (parameter_text p) pairs

-- a text that is not empty: an empty one counts as missing
abbrev pub some_text : List ℕ → Option (List ℕ)
some_text [] = None
some_text (b ∷ bs) = Some (b ∷ bs)

-- the text of a parameter, where it is not empty
abbrev pub given : Texts → Parameter → Option (List ℕ)
given texts p = option_and_then some_text (texts p)

-- the names of a list with commas between them
abbrev pub names_in : List ℕ → List (List ℕ)
names_in text = slice_split is_comma text

-- the names that a parameter lists, none where it is missing
abbrev pub names_of : Option (List ℕ) → List (List ℕ)
names_of None = []
names_of (Some text) = names_in text
