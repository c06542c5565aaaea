use Rattle.std.proofs.Common.{◌≡◌, ◌++◌, take}
use Rattle.std.specs.List.{flat_map}
use Rattle.compose.specs.Labels.{classified_candidates}
use Rattle.compose.specs.Walk.{given_at, classified_feature}
use Rattle.compose.proofs.labelled_layer.add_features.Given as goal

abbrev pub invariant-loop-index : goal.invariant-loop-index
invariant-loop-index l = l.labels ≡ l.fn.labels
    ++ flat_map (classified_candidates l.scene.view l.scene.map.fonts) (flat_map (given_at (classified_feature l.scene.scale l.layer) l.layer.features) (take l.index-index l.found))
