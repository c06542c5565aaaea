-- Colours of bytes.
use Rattle.std.specs.Prelude.{ℕ, List, [], ◌∷◌, Option, None, Some}
use Rattle.mapdefs.specs.declared.colour.Rgb.{Rgb}

-- three bytes are the red, the green and the blue of a colour
abbrev pub rgb_of_bytes : List ℕ → Option Rgb
rgb_of_bytes (r ∷ g ∷ b ∷ []) = Some (record { red = r; green = g; blue = b })
rgb_of_bytes _ = None
