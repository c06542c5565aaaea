-- The sides of pictures and of pixmaps (docs/SERVICE.md, "Limits").
use Rattle.std.specs.Prelude.{◌≡◌, ◌*◌, ◌≤◌, length}
use Rattle.mapdefs.specs.declared.picture.PictureFields.{PictureFields}
use Rattle.mapdefs.specs.declared.smooth_picture.SmoothFields.{SmoothFields}
use Rattle.mapdefs.specs.declared.symbol.PixmapFields.{PixmapFields}
use Rattle.mapdefs.specs.declared.limits.TheConstants.{MAX_SYMBOL_SIDE}

-- the picture has as many pixels as its sides say
pub record IsPictureWithinLimits (p : PictureFields) : Type 0 where
  pub area : length p.pixels ≡ p.width * p.height

-- the same of a smoothed picture
pub record IsSmoothWithinLimits (p : SmoothFields) : Type 0 where
  pub area : length p.pixels ≡ p.width * p.height

-- the sides of a symbol's pixmap are within the limits, and each pixel has a colour
pub record IsPixmapWithinLimits (p : PixmapFields) : Type 0 where
  pub some_columns : 1 ≤ p.width
  pub some_rows : 1 ≤ p.height
  pub columns : p.width ≤ MAX_SYMBOL_SIDE
  pub rows : p.height ≤ MAX_SYMBOL_SIDE
  pub area : length p.pixels ≡ p.width * p.height
