use Rattle.std.proofs.Common.{map, take}
use Rattle.std.specs.List.{flat_map}
use Rattle.viewport.specs.View.{device_point}
use Rattle.compose.specs.Paint.{polygon_shapes}
use Rattle.canvas.specs.Painted.{IsPainted}
use Rattle.compose.proofs.polygon.paint_polygon.Given as goal

abbrev pub invariant-loop-style : goal.invariant-loop-style
invariant-loop-style l = IsPainted l.fn.canvas l.canvas (flat_map (polygon_shapes l.scene.view.factor (map (map (device_point l.scene.view)) l.fn.rings)) (take l.style-index l.styles))
