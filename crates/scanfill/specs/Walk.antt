-- How an edge is walked down, row by row, without a division (docs/DRAWING.md, "When a pixel belongs to a polygon").
use Rattle.std.specs.Prelude.{◌≡◌, ℕ, ◌≤◌, ◌<◌, ◌^◌, if◌then◌else◌, ℤ, pos, ◌+ℤ◌, ◌-ℤ◌, ◌*ℤ◌, int_lt}
use Rattle.std.specs.Int.{int_div_euclid}
use Rattle.geom.specs.Edge.{EdgeEnds, IsDeviceEdge, rise, run}
use Rattle.geom.specs.Range.{IsBelow}
use Rattle.geom.specs.declared.side.TheConstants.{MAX_PICTURE_SIDE}
use Rattle.scanfill.specs.Column.{CrossesRows, column_of, reach}
use Rattle.scanfill.specs.declared.row_crossing.RowCrossing.{RowCrossing}
use Rattle.scanfill.specs.declared.row_crossing.Slope.{Slope}

-- a walk: the edge, the row that it has come to, and the row before which it ends
pub record WalkValue : Type 0 where
  pub edge : EdgeEnds
  pub row : ℕ
  pub end : ℕ

-- what is left of the reach by the quotient that gives the column
unfoldable pub over_of : EdgeEnds → ℕ → ℤ
over_of e j = reach e j -ℤ int_div_euclid (reach e j) (pos 16 *ℤ rise e) *ℤ (pos 16 *ℤ rise e)

-- where an edge crosses row j
abbrev pub crossing_at : EdgeEnds → ℕ → RowCrossing
crossing_at e j = record { column = column_of e j; over = over_of e j }

-- how far it goes from row to row: whole columns, and what is left of them by their quotient
unfoldable pub slope_of : EdgeEnds → Slope
slope_of e = record {
  step = int_div_euclid (run e) (rise e);
  whole = pos 16 *ℤ rise e;
  rest = pos 16 *ℤ (run e -ℤ int_div_euclid (run e) (rise e) *ℤ rise e);
}

-- the crossing a row further down: one more column where the remainder doesn't cover the slope's rest
abbrev pub next_crossing : RowCrossing → Slope → RowCrossing
next_crossing place slope =
    if int_lt place.over slope.rest
    then record { column = place.column +ℤ slope.step +ℤ pos 1; over = place.over -ℤ slope.rest +ℤ slope.whole }
    else record { column = place.column +ℤ slope.step; over = place.over -ℤ slope.rest }

-- crossing and slope have the sizes of those of an edge between device points
pub record AreSizes (place : RowCrossing) (slope : Slope) : Type 0 where
  pub column : IsBelow (2 ^ 44) place.column
  pub over : IsBelow (2 ^ 52) place.over
  pub step : IsBelow (2 ^ 48) slope.step
  pub whole : IsBelow (2 ^ 52) slope.whole
  pub rest : IsBelow (2 ^ 52) slope.rest

-- the edge crosses all rows that remain of the walk, and crossing and slope are those of the row that it has come to
pub record IsWalked (edge : EdgeEnds) (row end : ℕ) (place : RowCrossing) (slope : Slope) : Type 0 where
  pub device : IsDeviceEdge edge
  pub some : row < end
  pub below : end ≤ MAX_PICTURE_SIDE
  pub crosses : CrossesRows edge row end
  pub at : place ≡ crossing_at edge row
  pub goes : slope ≡ slope_of edge
