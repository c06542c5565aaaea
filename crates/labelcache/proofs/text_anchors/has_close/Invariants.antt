use Rattle.std.proofs.Common.{ℕ, ◌<◌, ◌≡◌, Some}
use Rattle.std.specs.List.{slice_get}
use Rattle.geom.specs.Device.{PixelValue}
use Rattle.labelcache.specs.Anchors.{IsAnchorNear}
use Rattle.labelcache.proofs.text_anchors.has_close.Given as goal

-- none of the anchors so far is near
abbrev pub invariant-loop-other : goal.invariant-loop-other
invariant-loop-other l = (i : ℕ) (x : PixelValue) → i < l.other-index → slice_get l.anchors i ≡ Some x → IsAnchorNear l.anchor l.distance x → ⊥
