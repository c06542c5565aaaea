-- Cells of a picture, squares of 2^level pixels a side, by which near anchors are found: the account of the code.
use Rattle.std.specs.Prelude.{◌≡◌, ℕ, ◌+◌, ◌-◌, ◌*◌, ◌/◌, ◌^◌, ◌<◌, ◌≤◌, Bool, pos, ℤ, ◌+ℤ◌, unsigned_abs, IsTrue, List, All}
use Rattle.std.specs.BTreeSet.{BTreeSet, contains}
use Rattle.std.specs.List.{Any}
use Rattle.std.specs.Ordering.{nat_cmp, ordering_then}
use Rattle.std.specs.declared.cmp.Ordering.{Ordering}
use Rattle.geom.specs.Device.{PixelValue}
use Rattle.labelcache.specs.Candidate.{IsAnchor, square}
use Rattle.labelcache.specs.declared.cells.Cell.{Cell}
use Rattle.labelcache.specs.declared.cells.GridPoint.{GridPoint}

-- a column or a row of an anchor, counted from 2^32 before the picture's first
abbrev pub offset : ℤ → ℕ
offset position = unsigned_abs (position +ℤ pos (2 ^ 32))

-- the point of an anchor
abbrev pub point_of : PixelValue → GridPoint
point_of p = record { column = offset p.i; row = offset p.j }

-- the cell of a level that contains a point
abbrev pub cell_of : ℕ → GridPoint → Cell
cell_of level point = record { level = level; column = point.column / 2 ^ level; row = point.row / 2 ^ level }

-- a quarter of a cell
abbrev pub child_of : Cell → ℕ → ℕ → Cell
child_of cell right down = record { level = cell.level - 1; column = 2 * cell.column + right; row = 2 * cell.row + down }

-- a column and a row are below 2^33, as those of each anchor are
pub record IsWithin (point : GridPoint) : Type 0 where
  pub column : point.column < 2 ^ 33
  pub row : point.row < 2 ^ 33

-- a cell lies within twice as many columns and rows
pub record IsCell (cell : Cell) : Type 0 where
  pub column : (cell.column + 1) * 2 ^ cell.level ≤ 2 ^ 34
  pub row : (cell.row + 1) * 2 ^ cell.level ≤ 2 ^ 34

-- how far apart two columns, or rows, are
abbrev pub apart : ℕ → ℕ → ℕ
apart a b = (a - b) + (b - a)

-- a point is nearer to another than a distance
abbrev pub IsPointNear : GridPoint → ℕ → GridPoint → Type 0
IsPointNear a distance b = square (apart a.column b.column) + square (apart a.row b.row) < square distance

-- the order of marked cells
abbrev pub cell_cmp : ℕ × (ℕ × ℕ) → ℕ × (ℕ × ℕ) → Ordering
cell_cmp a b = ordering_then (nat_cmp a.0 b.0) (ordering_then (nat_cmp a.1.0 b.1.0) (nat_cmp a.1.1 b.1.1))

-- whether a cell is marked
abbrev pub has : BTreeSet (ℕ × (ℕ × ℕ)) → Cell → Bool
has marked cell = contains cell_cmp marked (cell.level, (cell.column, cell.row))

-- the cells of all levels, up to the highest one, that contain a point are marked
abbrev pub IsMarked : BTreeSet (ℕ × (ℕ × ℕ)) → GridPoint → Type 0
IsMarked marked point = (level : ℕ) → level ≤ 17 → IsTrue (has marked (cell_of level point))

-- a cell of the lowest level is marked, and its one point is nearer to another than a distance
pub record HasNearPoint (marked : BTreeSet (ℕ × (ℕ × ℕ))) (point : GridPoint) (distance : ℕ) : Type 0 where
  pub cell : Cell
  pub lowest : cell.level ≡ 0
  pub is : IsTrue (has marked cell)
  pub near : IsPointNear point distance (record { column = cell.column; row = cell.row })

-- anchors are kept: all cells that contain one are marked, and no other cell of the lowest level is
pub record AreNoted (marked : BTreeSet (ℕ × (ℕ × ℕ))) (anchors : List PixelValue) : Type 0 where
  pub sizes : All IsAnchor anchors
  pub each : All (λ p. IsMarked marked (point_of p)) anchors
  pub only : (cell : Cell) → cell.level ≡ 0 → IsTrue (has marked cell) → Any (λ p. cell ≡ cell_of 0 (point_of p)) anchors
