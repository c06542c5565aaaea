use Rattle.std.proofs.Common.{take}
use Rattle.std.specs.List.{flat_map}
use Rattle.canvas.specs.Painted.{IsPainted}
use Rattle.compose.specs.Blocks.{corner_of, label_from}
use Rattle.compose.specs.Labels.{label_shapes}
use Rattle.compose.proofs.block.paint_moved.Given as goal

abbrev pub invariant-loop-label : goal.invariant-loop-label
invariant-loop-label l = IsPainted l.fn.canvas l.canvas (flat_map (λ label. label_shapes l.fonts l.labels.candidates (label_from (corner_of l.view) label)) (take l.label-index l.label-items))
