use Rattle.std.proofs.Common.{take}
use Rattle.std.specs.List.{flat_map}
use Rattle.inking.specs.Styles.{point_shapes}
use Rattle.canvas.specs.Painted.{IsPainted}
use Rattle.inking.proofs.points.paint_points.Given as goal

abbrev pub invariant-loop-style : goal.invariant-loop-style
invariant-loop-style l = IsPainted l.fn.canvas l.canvas (flat_map (λ style. flat_map (λ part. flat_map (point_shapes l.scene.view l.scene.map.symbols style) part) l.parts) (take l.style-index l.styles))
