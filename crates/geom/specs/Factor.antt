-- How many times as fine a picture may be (docs/DRAWING.md, "Smoothing").
use Rattle.std.specs.Prelude.{ℕ, ◌≤◌, ◌&&◌, nat_le, if◌then◌else◌, Option, None, Some}
use Rattle.geom.specs.declared.factor.TheConstants.{MAX_FACTOR}

-- a map's pixel may be so many pixels of a picture, in both directions
pub record IsFactor (n : ℕ) : Type 0 where
  pub some : 1 ≤ n
  pub most : n ≤ MAX_FACTOR

-- that factor, if a picture may have it
abbrev pub factor_by : ℕ → Option ℕ
factor_by n = if nat_le 1 n && nat_le n MAX_FACTOR then Some n else None
