use Rattle.std.proofs.Common.{◌≡◌, ℕ, ◌<◌, map, Some}
use Rattle.std.specs.List.{slice_get}
use Rattle.geom.specs.Device.{PixelValue}
use Rattle.labelcache.specs.LabelBox.{corner_at, size_in}
use Rattle.labelcache.specs.Placing.{IsFreeAt}
use Rattle.labelcache.proofs.trial.first_free.Given as goal

-- the text is free at none of the positions so far
abbrev pub invariant-loop-position : goal.invariant-loop-position
invariant-loop-position l = (i : ℕ) (p : PixelValue) → i < l.position-index → slice_get (map (corner_at l.candidate.anchor (size_in l.page.fonts l.candidate)) l.positions) i ≡ Some p → IsFreeAt l.page l.placing.labels l.candidate p → ⊥
