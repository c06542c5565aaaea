use Rattle.std.proofs.Common.{map, take}
use Rattle.std.specs.List.{flat_map}
use Rattle.viewport.specs.View.{device_point}
use Rattle.inking.specs.Styles.{line_shapes}
use Rattle.canvas.specs.Painted.{IsPainted}
use Rattle.inking.proofs.lines.paint_lines.Given as goal

abbrev pub invariant-loop-style : goal.invariant-loop-style
invariant-loop-style l = IsPainted l.fn.canvas l.canvas (flat_map (line_shapes l.scene.view.factor (map (map (device_point l.scene.view)) l.fn.parts)) (take l.style-index l.styles))
