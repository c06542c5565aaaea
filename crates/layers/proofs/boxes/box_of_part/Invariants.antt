use Rattle.std.proofs.Common.{◌≡◌, ◌*◌, ◌<◌, ◌∷◌, List, drop, fold}
use Rattle.geom.specs.World.{Place}
use Rattle.mapdefs.proofs.BlockBoxes.{IsWider}
use Rattle.mapdefs.specs.Blocks.{box_of_places, nowhere, with_place}
use Rattle.layers.proofs.boxes.box_of_part.Given as goal

-- with the vertices from this block on, the box is that of all; it has the first of these already
abbrev pub invariant-loop-block : goal.invariant-loop-block
invariant-loop-block l = record {
  box : fold with_place l.grown (drop (32 * l.block-index) l.fn.part) ≡ box_of_places l.fn.part;
  wide : IsWider l.grown nowhere;
  again : 0 < l.block-index → (v : Place) (more : List Place) → drop (32 * l.block-index) l.fn.part ≡ v ∷ more → with_place l.grown v ≡ l.grown;
}
