use Rattle.std.proofs.Common.{◌≡◌, map, take}
use Rattle.viewport.specs.View.{device_point}
use Rattle.scene.proofs.parts.points_of.Given as goal

abbrev pub invariant-loop-place : goal.invariant-loop-place
invariant-loop-place l = l.points.items ≡ map (device_point l.projection) (take l.place-index l.part)
