use Rattle.std.proofs.Common.{take}
use Rattle.std.specs.List.{flat_map}
use Rattle.inking.specs.Styles.{point_shapes}
use Rattle.canvas.specs.Painted.{IsPainted}
use Rattle.inking.proofs.points.paint_by_style.Given as goal

abbrev pub invariant-loop-part : goal.invariant-loop-part
invariant-loop-part l = IsPainted l.fn.canvas l.canvas (flat_map (λ part. flat_map (point_shapes l.scene.view l.scene.map.symbols l.style) part) (take l.part-index l.parts))
