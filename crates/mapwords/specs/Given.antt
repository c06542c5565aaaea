-- Values of several tokens, as they are given after their keyword (docs/MAPFILE.md, "Values").
use Rattle.std.specs.Prelude.{◌≡◌, ℕ, ◌<◌, Bool, false, if◌then◌else◌, List, [], ◌∷◌, IsTrue, Option, Some, Result, Ok, Err}
use Rattle.std.specs.Option.{option_map_or}
use Rattle.std.specs.Fmt.{decimal}
use Rattle.maplex.specs.declared.fault.Tail.{Tail}
use Rattle.maplex.specs.Token.{TokenValue}
use Rattle.mapwords.specs.declared.table.ColourKeyword.TheVariants.{Color}
use Rattle.mapwords.specs.declared.role.Expected.{Expected}
use Rattle.mapwords.specs.declared.role.Expected.TheVariants as expected
use Rattle.mapwords.specs.declared.value.Value.{Value}
use Rattle.mapwords.specs.declared.value.Value.TheVariants as value
use Rattle.mapwords.specs.declared.value.ValueStep.{ValueStep}
use Rattle.mapwords.specs.declared.value.ValueStep.TheVariants.{More, Whole}
use Rattle.mapwords.specs.declared.fault.Fault.{Fault}
use Rattle.mapwords.specs.declared.fault.ParseKind.TheVariants.{MissingValue, Limit}
use Rattle.mapwords.specs.Fault.{refused, missing}
use Rattle.mapdefs.specs.Outcome.{and_then}
use Rattle.mapwords.specs.Symbol.{is_early_end}
use Rattle.mapwords.specs.Value.{font_name_at, is_value, value_step}

-- a value that was given, and the tokens after it
pub record Given : Type 0 where
  pub value : Value
  pub rest : List TokenValue

-- a token of a value; it may be the key of a font that is one more than a map may have
abbrev pub given_step : Bool → Expected → TokenValue → Result ValueStep Fault
given_step is_too_many expected t =
    if is_early_end expected t then refused MissingValue t
    else if is_too_many then refused Limit t
    else value_step expected t

-- a name is one more than a map may have, if there is a name
abbrev pub is_beyond : (List ℕ → Bool) → Option (List ℕ) → Bool
is_beyond is_too_many name = option_map_or is_too_many name false

-- the value that a keyword takes of the tokens after it, where some names of fonts would be one too many
unfoldable pub value_in : Tail → (List ℕ → Bool) → Expected → List TokenValue → Result Given Fault
value_in tail is_too_many expected [] = Err (missing tail)
value_in tail is_too_many expected (t ∷ ts) =
    and_then (given_step (is_beyond is_too_many (font_name_at expected t)) expected t) (λ step. elim step [
      | More next ↦ value_in tail is_too_many next ts
      | Whole value ↦ Ok (record { value = value; rest = ts })
    ])

-- the law that three counts after COLOR, bare or quoted and in decimals, are the red, the green and the blue of a colour
abbrev pub CountsAreColour : Type 0
CountsAreColour = (red green blue : ℕ) → red < 256 → green < 256 → blue < 256 →
    (tail : Tail) (is_too_many : List ℕ → Bool) (r g b : TokenValue) (ts : List TokenValue) →
    IsTrue (is_value r.shape) → IsTrue (is_value g.shape) → IsTrue (is_value b.shape) →
    r.text ≡ decimal red → g.text ≡ decimal green → b.text ≡ decimal blue →
    value_in tail is_too_many (expected.Colour Color) (r ∷ g ∷ b ∷ ts)
    ≡ Ok (record { value = value.Colour Color (Some (record { red = red; green = green; blue = blue })); rest = ts })
