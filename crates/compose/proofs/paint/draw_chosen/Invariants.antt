use Rattle.std.proofs.Common.{All, length, ◌<◌}
use Rattle.compose.proofs.Mentions.{IsDrawnTo}
use Rattle.compose.proofs.paint.draw_chosen.Given as goal

-- the layers before the rest have been mentioned
abbrev pub invariant-loop-index : goal.invariant-loop-index
invariant-loop-index g l = record {
  drawn : IsDrawnTo l.scene l.chosen l.rest l.fn.drawing l.drawing;
  layers : All (λ index. index < length l.scene.map.layers) l.rest;
}

abbrev pub decreases-loop-index : goal.decreases-loop-index
decreases-loop-index g l = length l.rest
