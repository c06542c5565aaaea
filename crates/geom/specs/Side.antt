-- The sides of pictures (docs/SERVICE.md, "Limits").
use Rattle.std.specs.Prelude.{ℕ, ◌≤◌, ◌&&◌, nat_le, if◌then◌else◌, Option, None, Some}
use Rattle.geom.specs.declared.side.TheConstants.{MAX_PICTURE_SIDE}

-- a picture may have a side of that many pixels
pub record IsPictureSide (n : ℕ) : Type 0 where
  pub some : 1 ≤ n
  pub most : n ≤ MAX_PICTURE_SIDE

-- the side of that many pixels, if a picture may have it
abbrev pub picture_side : ℕ → Option ℕ
picture_side n = if nat_le 1 n && nat_le n MAX_PICTURE_SIDE then Some n else None
