-- Blocks of fine pixels, their sums and their means.
use Rattle.std.specs.Prelude.{◌≡◌, ℕ, List, Option, length}
use Rattle.mapdefs.specs.declared.colour.Rgb.{Rgb}
use Rattle.smoothing.specs.Sums.{AreSums}
use Rattle.smoothing.specs.declared.sums.Sums.{Sums}

-- the sums are those of a block of so many pixels
pub record IsBlock (count : ℕ) (pixels : List (Option Rgb)) (s : Sums) : Type 0 where
  pub many : length pixels ≡ count
  pub sums : AreSums pixels s
