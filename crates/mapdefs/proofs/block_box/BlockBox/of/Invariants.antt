use Rattle.std.proofs.Common.{◌≡◌, drop, fold}
use Rattle.mapdefs.specs.Blocks.{box_of_places, with_place}
use Rattle.mapdefs.proofs.block_box.BlockBox.of.Given as goal

abbrev pub invariant-loop-place : goal.invariant-loop-place
invariant-loop-place l = fold with_place l.grown (drop l.place-index l.places) ≡ box_of_places l.places
