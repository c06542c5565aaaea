-- Blocks of a part's vertices, and the box of each (docs/developers/WALKS.md, "Blocks of vertices").
use Rattle.std.specs.Prelude.{◌≡◌, ℕ, ◌+◌, ◌-◌, ◌*◌, ◌<◌, pos, neg_ℤ, List, length, take, drop, fold, slice_index_or}
use Rattle.std.specs.Int.{div_ceil, int_max, int_min}
use Rattle.geom.specs.declared.micro.TheConstants.{COORDINATE_LIMIT}
use Rattle.geom.specs.World.{Area, Place}
use Rattle.mapdefs.specs.declared.block_box.TheConstants.{BLOCK_EDGES}

-- the box that a box and a place lie in
abbrev pub with_place : Area → Place → Area
with_place area p = record { minx = int_min area.minx p.x; miny = int_min area.miny p.y; maxx = int_max area.maxx p.x; maxy = int_max area.maxy p.y }

-- the box of no places: its west side is east of all places, and so on
abbrev pub nowhere : Area
nowhere = record {
  minx = pos COORDINATE_LIMIT;
  miny = pos COORDINATE_LIMIT;
  maxx = neg_ℤ (pos COORDINATE_LIMIT);
  maxy = neg_ℤ (pos COORDINATE_LIMIT);
}

-- the least box of some places
abbrev pub box_of_places : List Place → Area
box_of_places places = fold with_place nowhere places

-- the block of an index: the vertices along `BLOCK_EDGES` edges, the last of which is the first of the next block
abbrev pub block_of : List Place → ℕ → List Place
block_of vertices k = take (BLOCK_EDGES + 1) (drop (BLOCK_EDGES * k) vertices)

-- the boxes are those of the blocks of a part, in order: there are as many blocks as hold its edges, and the last may be short
pub record AreBlockBoxes (vertices : List Place) (boxes : List Area) : Type 0 where
  pub count : length boxes ≡ div_ceil (length vertices - 1) BLOCK_EDGES
  pub each : (k : ℕ) (d : Area) → k < length boxes → slice_index_or boxes k d ≡ box_of_places (block_of vertices k)
