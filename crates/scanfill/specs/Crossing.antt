-- The edges of a polygon as a sweep knows them (docs/DRAWING.md, "When a pixel belongs to a polygon").
use Rattle.std.specs.Prelude.{◌≡◌, ℕ, ◌+◌, ◌≤◌, ◌<◌, ◌^◌, Bool, ◌&&◌, pos, int_le, List, length, slice_index_or, count_by}
use Rattle.clip.specs.EdgeClass.{has_row}
use Rattle.scanfill.specs.Column.{column_of}
use Rattle.scanfill.specs.declared.crossing.Crossing.{Crossing}
use Rattle.scanfill.specs.declared.crossing.Crossing.TheVariants as crossing

-- the row that it has come to
abbrev pub row_of : Crossing → ℕ
row_of (crossing.Left rows) = rows.from
row_of (crossing.Walk walk) = walk.row

-- the row before which it ends
abbrev pub end_of : Crossing → ℕ
end_of (crossing.Left rows) = rows.to
end_of (crossing.Walk walk) = walk.end

-- it has still to come to row j, or is there, and crosses it in column i or left of it
abbrev pub reaches : ℕ → ℕ → Crossing → Bool
reaches i j (crossing.Left rows) = has_row rows j
reaches i j (crossing.Walk walk) = has_row (record { from = walk.row; to = walk.end }) j && int_le (column_of walk.edge j) (pos i)

-- one crossing goes on from row to row as another: it reaches the same pixels of the rows that follow
pub record IsNext (old new : Crossing) : Type 0 where
  pub row : row_of new ≡ row_of old + 1
  pub end : end_of new ≡ end_of old
  pub same : (i j : ℕ) → row_of old < j → reaches i j new ≡ reaches i j old

-- the crossings before one index have ended, those from there to another are at the row, the others wait in the order of their rows
pub record AreOrdered (list : List Crossing) (row passed begun : ℕ) : Type 0 where
  pub within : begun ≤ length list
  pub rising : passed ≤ begun
  pub below : row < 2 ^ 16
  pub ended : (k : ℕ) (d : Crossing) → k < passed → end_of (slice_index_or list k d) ≤ row
  pub active : (k : ℕ) (d : Crossing) → passed ≤ k → k < begun → (row_of (slice_index_or list k d) ≡ row) × (row < end_of (slice_index_or list k d))
  pub waiting : (k : ℕ) (d : Crossing) → begun ≤ k → k < length list → row < row_of (slice_index_or list k d)
  pub some : (k : ℕ) (d : Crossing) → begun ≤ k → k < length list → row_of (slice_index_or list k d) < end_of (slice_index_or list k d)
  pub order : (k l : ℕ) (d : Crossing) → begun ≤ k → k ≤ l → l < length list → row_of (slice_index_or list k d) ≤ row_of (slice_index_or list l d)

-- The crossings before one index have ended, those from there to another have gone on to the row after this, and the
-- others are as they were. Each pixel of the rows that follow is reached by as many of them as before.
pub record HaveGoneOn (old new : List Crossing) (row passed at : ℕ) : Type 0 where
  pub width : length new ≡ length old
  pub rising : passed ≤ at
  pub ended : (k : ℕ) (d : Crossing) → k < passed → end_of (slice_index_or new k d) ≤ row + 1
  pub active : (k : ℕ) (d : Crossing) → passed ≤ k → k < at → (row_of (slice_index_or new k d) ≡ row + 1) × (row + 1 < end_of (slice_index_or new k d))
  pub rest : (k : ℕ) (d : Crossing) → at ≤ k → k < length old → slice_index_or new k d ≡ slice_index_or old k d
  pub counts : (i j : ℕ) → row < j → count_by (reaches i j) new ≡ count_by (reaches i j) old
