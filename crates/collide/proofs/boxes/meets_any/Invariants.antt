use Rattle.std.proofs.Common.{ℕ, ◌<◌, ◌≡◌, Some}
use Rattle.std.specs.List.{slice_get}
use Rattle.geom.specs.PxBox.{PixelBoxValue, Meets}
use Rattle.collide.proofs.boxes.meets_any.Given as goal

-- none of the boxes so far meets the area
abbrev pub invariant-loop-other : goal.invariant-loop-other
invariant-loop-other l = (i : ℕ) (x : PixelBoxValue) → i < l.other-index → slice_get l.boxes i ≡ Some x → Meets l.area x → ⊥
