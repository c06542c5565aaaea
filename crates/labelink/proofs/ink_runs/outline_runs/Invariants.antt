use Rattle.std.proofs.Common.{◌≡◌, ℤ, ◌+ℤ◌}
use Rattle.std.specs.List.{list_any}
use Rattle.labelink.specs.Disc.{disc, outlines_run}
use Rattle.labelink.proofs.Rows.{covers_above}
use Rattle.labelink.proofs.ink_runs.outline_runs.Given as goal

abbrev pub invariant-loop-row : goal.invariant-loop-row
invariant-loop-row l = (i j : ℤ) → list_any (λ run. outlines_run run i j) l.runs.items ≡ list_any (λ step. covers_above l.glyph l.row (i +ℤ step.i) (j +ℤ step.j)) (disc l.chords)
