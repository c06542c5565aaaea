use Rattle.std.proofs.Common.{◌≡◌, take}
use Rattle.std.specs.List.{flat_map}
use Rattle.compose.specs.Labels.{classified_candidates}
use Rattle.compose.specs.Walk.{classified_chosen}
use Rattle.compose.proofs.labels.candidates_of.Given as goal

-- the candidates of the layers so far have been added
abbrev pub invariant-loop-index : goal.invariant-loop-index
invariant-loop-index g l = l.labels
    ≡ flat_map (classified_candidates l.scene.view l.scene.map.fonts) (flat_map (classified_chosen l.scene.scale l.scene.map) (take l.index-index l.chosen))
