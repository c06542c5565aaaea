use Rattle.std.proofs.Common.{◌≡◌, map, take, vec_items}
use Rattle.viewport.specs.View.{device_point}
use Rattle.scene.proofs.parts.points_of_parts.Given as goal

abbrev pub invariant-loop-part : goal.invariant-loop-part
invariant-loop-part l = map vec_items l.points.items ≡ map (map (device_point l.projection)) (take l.part-index l.parts)
