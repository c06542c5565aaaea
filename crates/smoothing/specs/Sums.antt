-- Sums of the channels of pixels, of two channels in one number.
use Rattle.std.specs.Prelude.{◌≡◌, ℕ, ◌+◌, ◌*◌, ◌≤◌, List, Option}
use Rattle.std.specs.List.{AllByRecursion, sum_by}
use Rattle.mapdefs.specs.Alpha.{rgba_of}
use Rattle.mapdefs.specs.declared.colour.Rgb.{Rgb}
use Rattle.smoothing.specs.declared.sums.Sums.{Sums}

-- the four channels of a pixel in one number, of eight bits each
abbrev pub word_of : Option Rgb → ℕ
word_of p = (rgba_of p).red + 256 * (rgba_of p).green + 65536 * (rgba_of p).blue + 16777216 * (rgba_of p).alpha

-- red and blue of a pixel, and green and alpha: two channels in one number, of sixteen bits each
abbrev pub outer_of : Option Rgb → ℕ
outer_of p = (rgba_of p).red + 65536 * (rgba_of p).blue

abbrev pub inner_of : Option Rgb → ℕ
inner_of p = (rgba_of p).green + 65536 * (rgba_of p).alpha

-- each channel of a pixel is a byte
pub record HasBytes (p : Option Rgb) : Type 0 where
  pub red : (rgba_of p).red ≤ 255
  pub green : (rgba_of p).green ≤ 255
  pub blue : (rgba_of p).blue ≤ 255

-- these are the sums of the channels of some pixels
pub record AreSums (pixels : List (Option Rgb)) (s : Sums) : Type 0 where
  pub bytes : AllByRecursion HasBytes pixels
  pub outer : s.outer ≡ sum_by outer_of pixels
  pub inner : s.inner ≡ sum_by inner_of pixels
