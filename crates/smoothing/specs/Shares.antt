-- Sums of channels that can be shared among pixels.
use Rattle.std.specs.Prelude.{◌≡◌, ℕ, ◌*◌, ◌/◌, ◌%◌, ◌≤◌, ◌⊎◌}
use Rattle.smoothing.specs.declared.sums.Sums.{Sums}

-- they may be those of so many pixels: each channel that has a colour is a byte, and where there is a colour the alpha is 255
pub record AreShares (count : ℕ) (s : Sums) : Type 0 where
  pub whole : s.inner / 65536 ≡ 255 * (s.inner / 65536 / 255)
  pub most : s.inner / 65536 ≤ 255 * count
  pub red : s.outer % 65536 ≤ s.inner / 65536
  pub green : s.inner % 65536 ≤ s.inner / 65536
  pub blue : s.outer / 65536 ≤ s.inner / 65536

-- each of so many pixels has a colour, or none has
abbrev pub IsWhole : ℕ → Sums → Type 0
IsWhole count s = (s.inner / 65536 ≡ 0) ⊎ (s.inner / 65536 ≡ 255 * count)
