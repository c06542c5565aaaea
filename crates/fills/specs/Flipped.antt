-- Flips that stand for the edges of rings in a picture (docs/DRAWING.md, "When a pixel belongs to a polygon").
use Rattle.std.specs.Prelude.{◌≡◌, ℕ, ◌<◌, ℤ, pos, ◌≤ℤ◌, ◌<ℤ◌, ◌==◌, List, Bool, true, int_le, int_lt, map}
use Rattle.geom.specs.Device.{pixel_centre}
use Rattle.geom.specs.Edge.{EdgeEnds, crosses_at_or_left}
use Rattle.geom.specs.EvenOdd.{edge_between, is_covered}
use Rattle.geom.specs.Laws.{is_one_of}
use Rattle.geom.specs.World.{Place, Area, IsExtent}
use Rattle.clip.specs.EdgeClass.{first_row}
use Rattle.scanfill.specs.Flips.{is_pixel_flipped}
use Rattle.viewport.specs.View.{ViewValue, across_of, device_point}
use Rattle.vertices.specs.Chain.{HasChain, chain_edges, chain_end}
use Rattle.canvas.specs.Latitudes.{row_of}
use Rattle.fills.specs.declared.run.Corner.{Corner}
use Rattle.fills.specs.declared.run.Run.{Run}

-- both latitudes of a run are of its row, and its last vertex lies between them
pub record IsRun (view : ViewValue) (run : Run) : Type 0 where
  pub low : row_of view run.low ≡ run.row
  pub high : row_of view run.high ≡ run.row
  pub least : run.low ≤ℤ run.from.y
  pub most : run.from.y ≤ℤ run.high
  pub rows : view.area.miny <ℤ view.area.maxy

-- a vertex of a ring is where its place lies, and of that row
pub record IsCorner (view : ViewValue) (corner : Corner) : Type 0 where
  pub at : corner.at ≡ device_point view corner.from
  pub row : corner.row ≡ first_row corner.at.y view.height

-- by the flips those pixels of the canvas lie inside that the edges cover
pub record StandFor (view : ViewValue) (flips : List ℕ) (whole : List EdgeEnds) : Type 0 where
  pub same : (i j : ℕ) → i < view.width → j < view.height → is_pixel_flipped flips i j ≡ is_covered whole (pixel_centre (pos i) (pos j))

-- by the new flips those pixels lie inside that either do by the old ones or the edges cover, and not both
pub record Adds (view : ViewValue) (old : List ℕ) (more : List EdgeEnds) (new : List ℕ) : Type 0 where
  pub same : (i j : ℕ) → i < view.width → j < view.height →
      is_pixel_flipped new i j ≡ is_one_of (is_pixel_flipped old i j) (is_covered more (pixel_centre (pos i) (pos j)))

-- the same for the edge between two vertices
abbrev pub AddsEdge : ViewValue → List ℕ → Place → Place → List ℕ → Type 0
AddsEdge view old from to new = (i j : ℕ) → i < view.width → j < view.height →
    is_pixel_flipped new i j ≡
    is_one_of (is_pixel_flipped old i j) (crosses_at_or_left (pixel_centre (pos i) (pos j)) (edge_between (device_point view from, device_point view to)))

-- a box lies right of all that the whole picture shows
abbrev pub is_right : ViewValue → Area → Bool
is_right view box = int_lt view.area.maxx box.minx

-- a box lies left of that, or reaches to its left side
abbrev pub is_left : ViewValue → Area → Bool
is_left view box = int_le box.maxx view.area.minx

-- the first column whose pixel centres lie at a longitude or right of it, or the canvas' width: counted from the left as rows are from the top
abbrev pub column_of : ViewValue → ℤ → ℕ
column_of view longitude = first_row (across_of view longitude) view.width

-- no pixel centre of the canvas lies between the west side of a box and its east side
abbrev pub is_in_column : ViewValue → Area → Bool
is_in_column view box = column_of view box.minx == column_of view box.maxx

-- the law: a chain of vertices in a box between the pixel centres of two columns covers what its chord covers, in however many rows
abbrev pub ChainsInAColumnCoverLikeTheirChord : Type 0
ChainsInAColumnCoverLikeTheirChord = (view : ViewValue) (box : Area) (from : Place) (rest : List Place) (i j : ℕ) → IsExtent view.area → HasChain box from rest → is_in_column view box ≡ true →
    i < view.width →
    is_covered (chain_edges (device_point view from) (map (device_point view) rest)) (pixel_centre (pos i) (pos j))
    ≡ crosses_at_or_left (pixel_centre (pos i) (pos j)) (edge_between (device_point view from, device_point view (chain_end from rest)))

-- by the new flips those pixels lie inside that either do by the old ones or the edges of a chain cover, and not both
abbrev pub AddsChain : ViewValue → List ℕ → Place → List Place → List ℕ → Type 0
AddsChain view old from rest new = Adds view old (chain_edges (device_point view from) (map (device_point view) rest)) new
