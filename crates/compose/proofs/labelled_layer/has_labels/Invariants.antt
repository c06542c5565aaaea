use Rattle.std.proofs.Common.{◌≡◌, drop}
use Rattle.std.specs.List.{list_any}
use Rattle.compose.specs.Labels.{has_label}
use Rattle.compose.proofs.labelled_layer.has_labels.Given as goal

-- some class has a label if one of the remaining ones has
abbrev pub invariant-loop-class : goal.invariant-loop-class
invariant-loop-class l = list_any has_label (drop l.class-index l.class-items) ≡ list_any has_label l.layer.classes
