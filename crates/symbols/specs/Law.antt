-- Files that are made from their parts, and pictures that are written, are read (docs/FILES.md, "Pixmaps"; docs/WMS.md, "Pictures").
use Rattle.std.specs.Prelude.{◌≡◌, ◌≤◌, map, Some, Ok}
use Rattle.geom.specs.Decimal.{number_of}
use Rattle.geom.specs.Side.{IsPictureSide}
use Rattle.mapdefs.specs.Alpha.{with_alphas}
use Rattle.mapdefs.specs.PictureLimits.{IsPictureWithinLimits}
use Rattle.mapdefs.specs.declared.limits.TheConstants.{MAX_SYMBOL_SIDE}
use Rattle.mapdefs.specs.declared.picture.PictureFields.{PictureFields}
use Rattle.symbols.specs.File.{File, IsFile, file_bytes}
use Rattle.symbols.specs.Format.{pixels_of, pixmap_of}
use Rattle.symbols.specs.Netpbm.{pam, pixmap_colour, ppm, smooth_pam, smooth_ppm}
use Rattle.symbols.specs.Pam.{picture_of}

-- the bytes of a file are the pixmap of its sides and its pixels' bytes, or their fault
abbrev pub AreFilesRead : Type 0
AreFilesRead = (f : File) → IsFile f → pixmap_of (file_bytes f) ≡ pixels_of (number_of f.width) (number_of f.height) f.pixels

-- a picture that is small enough for a symbol is read as it was, after it was written, with nothing as 0 0 0
abbrev pub ArePicturesRead : Type 0
ArePicturesRead =
    (p : PictureFields) → IsPictureWithinLimits p → 1 ≤ p.width → p.width ≤ MAX_SYMBOL_SIDE → 1 ≤ p.height → p.height ≤ MAX_SYMBOL_SIDE →
    pixmap_of (ppm p) ≡ Ok (record { width = p.width; height = p.height; pixels = map pixmap_colour p.pixels })

-- a picture that was written as a portable arbitrary map is that which the map shows
abbrev pub AreMapsRead : Type 0
AreMapsRead = (p : PictureFields) → IsPictureWithinLimits p → IsPictureSide p.width → IsPictureSide p.height → picture_of (pam p) ≡ Some p

-- a picture is written as it is with its alphas
pub record IsWrittenAlike (p : PictureFields) : Type 0 where
  pub pixmap : ppm p ≡ smooth_ppm (with_alphas p)
  pub map : pam p ≡ smooth_pam (with_alphas p)

-- each picture is
abbrev pub AreWrittenAlike : Type 0
AreWrittenAlike = (p : PictureFields) → IsWrittenAlike p
