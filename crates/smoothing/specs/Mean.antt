-- The mean of pixels of which each has a colour or nothing (docs/DRAWING.md, "Smoothing").
use Rattle.std.specs.Prelude.{ℕ, ◌+◌, ◌*◌, ◌/◌, List, [], ◌∷◌, length, Option, None, Some}
use Rattle.std.specs.List.{sum_by}
use Rattle.mapdefs.specs.declared.colour.Rgb.{Rgb}
use Rattle.mapdefs.specs.declared.rgba.Rgba.{Rgba}

-- the colours that some pixels have
abbrev pub colours_of : List (Option Rgb) → List Rgb
colours_of [] = []
colours_of (None ∷ pixels) = colours_of pixels
colours_of (Some colour ∷ pixels) = colour ∷ colours_of pixels

-- a total shared by so many, rounded to the nearest, a half up; shared by none it is 0
abbrev pub nearest : ℕ → ℕ → ℕ
nearest total count = (2 * total + count) / (2 * count)

-- the mean of some pixels: that of the colours that they have, channel by channel; its alpha is the share of the pixels that have one
unfoldable pub mean_of : List (Option Rgb) → Rgba
mean_of pixels =
    let colours = colours_of pixels in
    let count = length colours in
    record {
      red = nearest (sum_by (λ (c : Rgb). c.red) colours) count;
      green = nearest (sum_by (λ (c : Rgb). c.green) colours) count;
      blue = nearest (sum_by (λ (c : Rgb). c.blue) colours) count;
      alpha = nearest (255 * count) (length pixels);
    }
