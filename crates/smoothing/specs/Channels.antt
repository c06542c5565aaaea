-- The means of the channels that sums hold, two in one number (docs/DRAWING.md, "Smoothing").
use Rattle.std.specs.Prelude.{ℕ, ◌/◌, ◌%◌}
use Rattle.mapdefs.specs.declared.rgba.Rgba.{Rgba}
use Rattle.smoothing.specs.Mean.{nearest}
use Rattle.smoothing.specs.declared.sums.Sums.{Sums}

-- of so many colours among so many pixels
abbrev pub channel_means : Sums → ℕ → ℕ → Rgba
channel_means sums colours count = record {
  red = nearest (sums.outer % 65536) colours;
  green = nearest (sums.inner % 65536) colours;
  blue = nearest (sums.outer / 65536) colours;
  alpha = nearest (sums.inner / 65536) count;
}
