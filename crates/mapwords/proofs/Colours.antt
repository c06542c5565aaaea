-- What is written as a colour is read as this colour.
use Rattle.std.proofs.Common.{◌≡◌, ℕ, zero, suc, ◌<◌, ◌==◌, Bool, true, false, ◌&&◌, inl, inr, List, [], ◌∷◌, refl, arith, Option, Some, None, Ok}
use Rattle.std.specs.Prelude.{not, is_none, IsTrue}
use Rattle.std.specs.Fmt.{decimal, digits}
use Rattle.std.proofs.lemmas.Bool.{and_parts, cases_lt, eqb-true}
use Rattle.hex.specs.Hex.{IsBytes}
use Rattle.hex.proofs.HexLemmas.{decode_sized-encode_lower}
use Rattle.geom.specs.Decimal.{nearest}
use Rattle.maplex.specs.declared.fault.Tail.{Tail}
use Rattle.maplex.specs.declared.token.Shape.{Shape}
use Rattle.maplex.specs.declared.token.Shape.TheVariants.{Word, Text}
use Rattle.mapwords.specs.declared.colour.Component.{Component}
use Rattle.mapwords.specs.declared.colour.Component.TheVariants.{Level, Absent}
use Rattle.maplex.specs.Token.{TokenValue}
use Rattle.mapwords.specs.declared.keyword.Keyword.TheVariants.{End}
use Rattle.mapwords.specs.declared.table.ColourKeyword.{ColourKeyword}
use Rattle.mapwords.specs.declared.table.ColourKeyword.TheVariants.{Color}
use Rattle.mapwords.specs.declared.role.Expected.TheVariants as expected
use Rattle.mapwords.specs.declared.value.Value.TheVariants as value
use Rattle.mapwords.specs.declared.value.ValueStep.TheVariants.{More, Whole}
use Rattle.mapwords.specs.Colour.{rgb_of, component_of, hex_colour, HexDigitsAreColour}
use Rattle.mapwords.specs.Keyword.{spelling, is_spelt, is_in}
use Rattle.mapwords.specs.Value.{is_value, hex_in, value_step}
use Rattle.mapwords.specs.Given.{value_in, CountsAreColour}

are_bytes : (r g b : ℕ) → r < 256 → g < 256 → b < 256 → IsBytes (r ∷ g ∷ b ∷ [])
are_bytes r g b p q s zero = p
are_bytes r g b p q s (suc zero) = q
are_bytes r g b p q s (suc (suc zero)) = s
are_bytes r g b p q s (suc (suc (suc i))) = omega arith

pub hex_digits : HexDigitsAreColour
hex_digits red green blue p q s =
    rw (decode_sized-encode_lower (red ∷ green ∷ blue ∷ []) 3 refl (are_bytes red green blue p q s)) refl

-- the level of a component, or a number that is no level
abbrev level_or_none : Option Component → ℕ
level_or_none (Some (Level n)) = n
level_or_none (Some Absent) = 256
level_or_none None = 256

level-from : (component : Option Component) (k : ℕ) → k < 256 → level_or_none component ≡ k → component ≡ Some (Level k)
level-from (Some (Level n)) k p e = rw e refl
level-from (Some Absent) k p e = absurd (omega arith)
level-from None k p e = absurd (omega arith)

-- the test of one count: it is this level, it isn't END, and it isn't a colour of one token
abbrev is_count : ℕ → Bool
is_count k = (level_or_none (component_of (decimal k)) == k) && (not (is_spelt (decimal k) End) && is_none (hex_colour (decimal k)))

-- the test of all counts below n
abbrev are_counts : ℕ → Bool
are_counts zero = true
are_counts (suc n) = is_count n && are_counts n

are_counts-at : (n k : ℕ) → are_counts n ≡ true → k < n → is_count k ≡ true
are_counts-at zero k h lt = absurd (omega arith)
are_counts-at (suc n) k h lt =
    let parts = and_parts (is_count n) (are_counts n) h in
    elim (cases_lt k n) [
      | inl below ↦ are_counts-at n k parts.1 below
      | inr top ↦
          let e : k ≡ n = omega arith in
          rw e parts.0
    ]

all_counts : are_counts 256 ≡ true
unfolding digits nearest spelling
all_counts = refl

none-from : {A : Type 0} (o : Option A) → is_none o ≡ true → o ≡ None
none-from (Some a) h = let no : ⊥ = cc in absurd no
none-from None h = refl

false-from_not : (b : Bool) → not b ≡ true → b ≡ false
false-from_not true h = let no : ⊥ = cc in absurd no
false-from_not false h = refl

-- a token that is a count in decimals
module _ (t : TokenValue) (k : ℕ) (below : k < 256) (written : t.text ≡ decimal k) where
  passes : is_count k ≡ true
  passes = are_counts-at 256 k all_counts below

  level-at : component_of t.text ≡ Some (Level k)
  level-at =
      let level = (and_parts (level_or_none (component_of (decimal k)) == k) _ passes).0 in
      rw written (level-from (component_of (decimal k)) k below (eqb-true (level_or_none (component_of (decimal k))) k level))

  not_end-in : (shape : Shape) → is_in End shape t.text ≡ false
  not_end-in Word =
      let rest = (and_parts (level_or_none (component_of (decimal k)) == k) _ passes).1 in
      rw written (false-from_not (is_spelt (decimal k) End) (and_parts (not (is_spelt (decimal k) End)) _ rest).0)
  not_end-in _ = refl

  no_hex-in : (shape : Shape) → hex_in shape t.text ≡ None
  no_hex-in Text =
      let rest = (and_parts (level_or_none (component_of (decimal k)) == k) _ passes).1 in
      rw written (none-from (hex_colour (decimal k)) (and_parts (not (is_spelt (decimal k) End)) _ rest).1)
  no_hex-in _ = refl

  -- it is read as red, as green and as blue
  module _ (is : IsTrue (is_value t.shape)) where
    red-read : (w : ColourKeyword) → value_step (expected.Colour w) t ≡ Ok (More (expected.Green w (Level k)))
    red-read w = rw (is, no_hex-in t.shape, level-at) refl

    green-read : (w : ColourKeyword) (red : Component) → value_step (expected.Green w red) t ≡ Ok (More (expected.Blue w red (Level k)))
    green-read w red = rw (is, level-at) refl

    blue-read : (w : ColourKeyword) (red green : Component) → value_step (expected.Blue w red green) t ≡ Ok (Whole (value.Colour w (rgb_of red green (Level k))))
    blue-read w red green = rw (is, level-at) refl

-- three counts are the red, the green and the blue of the keyword's colour
pub counts_of : (w : ColourKeyword) (red green blue : ℕ) → red < 256 → green < 256 → blue < 256 →
    (tail : Tail) (is_too_many : List ℕ → Bool) (r g b : TokenValue) (ts : List TokenValue) →
    IsTrue (is_value r.shape) → IsTrue (is_value g.shape) → IsTrue (is_value b.shape) →
    r.text ≡ decimal red → g.text ≡ decimal green → b.text ≡ decimal blue →
    value_in tail is_too_many (expected.Colour w) (r ∷ g ∷ b ∷ ts)
    ≡ Ok (record { value = value.Colour w (Some (record { red = red; green = green; blue = blue })); rest = ts })
unfolding value_in
counts_of w red green blue p q s tail is_too_many r g b ts vr vg vb er eg eb =
    rw (
      not_end-in r red p er r.shape,
      red-read r red p er vr w,
      not_end-in g green q eg g.shape,
      green-read g green q eg vg w (Level red),
      not_end-in b blue s eb b.shape,
      blue-read b blue s eb vb w (Level red) (Level green),
    ) refl

pub counts : CountsAreColour
counts = counts_of Color
