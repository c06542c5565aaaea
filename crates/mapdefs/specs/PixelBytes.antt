-- The bytes of a pixel (Netpbm, PPM and PAM; docs/WMS.md, "Pictures").
use Rattle.std.specs.Prelude.{ℕ, List, [], ◌∷◌}
use Rattle.mapdefs.specs.declared.rgba.Rgba.{Rgba}

-- red, green, blue and alpha
abbrev pub rgba_bytes : Rgba → List ℕ
rgba_bytes pixel = pixel.red ∷ pixel.green ∷ pixel.blue ∷ pixel.alpha ∷ []
