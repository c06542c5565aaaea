use Rattle.std.proofs.Common.{take}
use Rattle.std.specs.List.{flat_map}
use Rattle.compose.specs.Drawn.{IsDrawn}
use Rattle.compose.specs.Walk.{given_at, classified_feature}
use Rattle.compose.proofs.paint.draw_features.Given as goal

abbrev pub invariant-loop-index : goal.invariant-loop-index
invariant-loop-index l = IsDrawn l.scene l.fn.drawing l.drawing (flat_map (given_at (classified_feature l.scene.scale l.layer) l.layer.features) (take l.index-index l.found))
