use Rattle.std.proofs.Common.{◌≡◌, ◌<◌, ℕ, length}
use Rattle.std.specs.Prelude.{slice_index_or}
use Rattle.geom.specs.World.{Area}
use Rattle.mapdefs.specs.Blocks.{block_of, box_of_places}
use Rattle.mapdefs.proofs.chain.boxes_of.Given as goal

-- the blocks before this one have their boxes
abbrev pub invariant-loop-k : goal.invariant-loop-k
invariant-loop-k l = record {
  count : length l.boxes.items ≡ l.k;
  each : (k : ℕ) (d : Area) → k < length l.boxes.items → slice_index_or l.boxes.items k d ≡ box_of_places (block_of l.vertices k);
}
