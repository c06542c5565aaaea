-- The bytes of a picture as a portable pixmap, or as a portable arbitrary map (Netpbm, PPM and PAM; docs/WMS.md, "Pictures").
use Rattle.std.specs.Prelude.{ℕ, List, [], ◌∷◌, ◌++◌, Option, None, Some, codes}
use Rattle.std.specs.List.{flat_map}
use Rattle.std.specs.Fmt.{decimal}
use Rattle.mapdefs.specs.Alpha.{rgba_of}
use Rattle.mapdefs.specs.PixelBytes.{rgba_bytes}
use Rattle.mapdefs.specs.declared.colour.Rgb.{Rgb}
use Rattle.mapdefs.specs.declared.picture.PictureFields.{PictureFields}
use Rattle.mapdefs.specs.declared.rgba.Rgba.{Rgba}
use Rattle.mapdefs.specs.declared.smooth_picture.SmoothFields.{SmoothFields}

-- a colour: a byte each of red, green and blue
abbrev pub rgb_bytes : Rgb → List ℕ
rgb_bytes colour = colour.red ∷ colour.green ∷ colour.blue ∷ []

-- the colour that a pixel has in a portable pixmap, where each has one: nothing is written as 0 0 0
abbrev pub pixmap_colour : Option Rgb → Rgb
pixmap_colour None = record { red = 0; green = 0; blue = 0 }
pixmap_colour (Some colour) = colour

-- the bytes of a pixel there
abbrev pub pixmap_bytes : Option Rgb → List ℕ
pixmap_bytes pixel = rgb_bytes (pixmap_colour pixel)

-- the magic number, width, height and greatest value, each on a line of its own but the sides on one
abbrev pub ppm_header : ℕ → ℕ → List ℕ
ppm_header width height = codes "P6\n" ++ (decimal width ++ (codes " " ++ (decimal height ++ codes "\n255\n")))

-- the header, and then the pixels row by row from the top
abbrev pub ppm : PictureFields → List ℕ
ppm picture = ppm_header picture.width picture.height ++ flat_map pixmap_bytes picture.pixels

-- the bytes of a pixel of an arbitrary map, with its alpha
abbrev pub opacity_bytes : Option Rgb → List ℕ
opacity_bytes pixel = rgba_bytes (rgba_of pixel)

-- the magic number, and a line each for the width, the height, how many samples a pixel has, their greatest value, and what they are
abbrev pub pam_header : ℕ → ℕ → List ℕ
pam_header width height =
    codes "P7\nWIDTH " ++ (decimal width ++ (codes "\nHEIGHT " ++ (decimal height ++ codes "\nDEPTH 4\nMAXVAL 255\nTUPLTYPE RGB_ALPHA\nENDHDR\n")))

-- the header, and then the pixels row by row from the top, each with its alpha
abbrev pub pam : PictureFields → List ℕ
pam picture = pam_header picture.width picture.height ++ flat_map opacity_bytes picture.pixels

-- the colour of a pixel, whatever its alpha
abbrev pub colour_of : Rgba → Rgb
colour_of pixel = record { red = pixel.red; green = pixel.green; blue = pixel.blue }

-- the same of smoothed pictures: a portable pixmap has their colours alone, an arbitrary map their alphas too
abbrev pub smooth_ppm : SmoothFields → List ℕ
smooth_ppm picture = ppm_header picture.width picture.height ++ flat_map (λ pixel. rgb_bytes (colour_of pixel)) picture.pixels

abbrev pub smooth_pam : SmoothFields → List ℕ
smooth_pam picture = pam_header picture.width picture.height ++ flat_map rgba_bytes picture.pixels
