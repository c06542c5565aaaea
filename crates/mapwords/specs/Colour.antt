-- Colours, and how they are written (docs/MAPFILE.md, "Colours").
use Rattle.std.specs.Prelude.{◌≡◌, ℕ, ◌==◌, ◌<◌, nat_le, if◌then◌else◌, List, [], ◌∷◌, ◌++◌, codes, ℤ, pos, negsuc, Option, None, Some, option_and_then}
use Rattle.std.specs.Result.{result_ok}
use Rattle.hex.specs.Hex.{decode_sized, encode_lower}
use Rattle.mapdefs.specs.Colour.{rgb_of_bytes}
use Rattle.mapdefs.specs.declared.colour.Rgb.{Rgb}
use Rattle.mapwords.specs.declared.colour.Component.{Component}
use Rattle.mapwords.specs.declared.colour.Component.TheVariants.{Level, Absent}
use Rattle.geom.specs.Number.{count_of}

-- a count from 0 to 255 is a level, and -1 says that there is no colour
abbrev pub component_of_count : ℤ → Option Component
component_of_count (pos n) = if nat_le n 255 then Some (Level n) else None
component_of_count (negsuc n) = if n == 0 then Some Absent else None

-- the component that a text means
abbrev pub component_of : List ℕ → Option Component
component_of text = option_and_then component_of_count (count_of text)

-- the levels of red, green and blue are a colour
abbrev pub rgb_of : Component → Component → Component → Option Rgb
rgb_of (Level r) (Level g) (Level b) = Some (record { red = r; green = g; blue = b })
rgb_of _ _ _ = None

-- the colour that a text `#rrggbb` means: after the `#`, three bytes of two hexadecimal digits each
abbrev pub hex_colour : List ℕ → Option Rgb
hex_colour [] = None
hex_colour (hash ∷ digits) = if hash == 35 then option_and_then rgb_of_bytes (result_ok (decode_sized digits 3)) else None

-- the law that `#` and red, green and blue, each as two hexadecimal digits, mean the colour of these components
abbrev pub HexDigitsAreColour : Type 0
HexDigitsAreColour = (red green blue : ℕ) → red < 256 → green < 256 → blue < 256 →
    hex_colour (codes "#" ++ encode_lower (red ∷ green ∷ blue ∷ [])) ≡ Some (record { red = red; green = green; blue = blue })
