-- Pixels and pictures with alphas (docs/DRAWING.md, "Smoothing").
use Rattle.std.specs.Prelude.{map, Option, None, Some}
use Rattle.mapdefs.specs.declared.colour.Rgb.{Rgb}
use Rattle.mapdefs.specs.declared.picture.PictureFields.{PictureFields}
use Rattle.mapdefs.specs.declared.rgba.Rgba.{Rgba}
use Rattle.mapdefs.specs.declared.smooth_picture.SmoothFields.{SmoothFields}

-- nothing, as a colour and an alpha
abbrev pub clear : Rgba
clear = record { red = 0; green = 0; blue = 0; alpha = 0 }

-- what a pixel has, with its alpha: a colour is opaque, and nothing is clear
abbrev pub rgba_of : Option Rgb → Rgba
rgba_of None = clear
rgba_of (Some colour) = record { red = colour.red; green = colour.green; blue = colour.blue; alpha = 255 }

-- a picture, with the alpha of each pixel
abbrev pub with_alphas : PictureFields → SmoothFields
with_alphas picture = record { width = picture.width; height = picture.height; pixels = map rgba_of picture.pixels }
