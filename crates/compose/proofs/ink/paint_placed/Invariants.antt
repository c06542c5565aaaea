use Rattle.std.proofs.Common.{take}
use Rattle.std.specs.List.{flat_map}
use Rattle.compose.specs.Labels.{label_shapes}
use Rattle.canvas.specs.Painted.{IsPainted}
use Rattle.compose.proofs.ink.paint_placed.Given as goal

abbrev pub invariant-loop-label : goal.invariant-loop-label
invariant-loop-label l = IsPainted l.fn.canvas l.canvas (flat_map (label_shapes l.fonts l.labels) (take l.label-index l.placed))
