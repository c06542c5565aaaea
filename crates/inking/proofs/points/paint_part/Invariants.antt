use Rattle.std.proofs.Common.{take}
use Rattle.std.specs.List.{flat_map}
use Rattle.inking.specs.Styles.{point_shapes}
use Rattle.canvas.specs.Painted.{IsPainted}
use Rattle.inking.proofs.points.paint_part.Given as goal

abbrev pub invariant-loop-place : goal.invariant-loop-place
invariant-loop-place l = IsPainted l.fn.canvas l.canvas (flat_map (point_shapes l.scene.view l.scene.map.symbols l.style) (take l.place-index l.part))
