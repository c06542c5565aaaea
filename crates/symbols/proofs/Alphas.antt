-- Pictures are written as they are with their alphas.
use Rattle.std.proofs.Common.{◌≡◌, List, [], ◌∷◌, ◌++◌, map, Option, None, Some, refl, ap}
use Rattle.std.specs.List.{flat_map}
use Rattle.mapdefs.specs.Alpha.{rgba_of}
use Rattle.mapdefs.specs.PixelBytes.{rgba_bytes}
use Rattle.mapdefs.specs.declared.colour.Rgb.{Rgb}
use Rattle.mapdefs.specs.declared.picture.PictureFields.{PictureFields}
use Rattle.symbols.specs.Law.{AreWrittenAlike}
use Rattle.symbols.specs.Netpbm.{colour_of, opacity_bytes, pam_header, pixmap_bytes, ppm_header, rgb_bytes}

-- the colours of some pixels
same-colours : (pixels : List (Option Rgb)) → flat_map pixmap_bytes pixels ≡ flat_map (λ pixel. rgb_bytes (colour_of pixel)) (map rgba_of pixels)
same-colours [] = refl
same-colours (None ∷ pixels) = ap (λ bytes. 0 ∷ 0 ∷ 0 ∷ bytes) (same-colours pixels)
same-colours (Some colour ∷ pixels) = ap (λ bytes. colour.red ∷ colour.green ∷ colour.blue ∷ bytes) (same-colours pixels)

-- and their alphas
same-alphas : (pixels : List (Option Rgb)) → flat_map opacity_bytes pixels ≡ flat_map rgba_bytes (map rgba_of pixels)
same-alphas [] = refl
same-alphas (pixel ∷ pixels) = rw (same-alphas pixels) refl

-- the law
pub written-alike : AreWrittenAlike
written-alike p = record {
  pixmap = ap (λ bytes. ppm_header p.width p.height ++ bytes) (same-colours p.pixels);
  map = ap (λ bytes. pam_header p.width p.height ++ bytes) (same-alphas p.pixels);
}
