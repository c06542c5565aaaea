-- The columns and rows of the whole picture that the canvas of a view has (docs/DRAWING.md, "Pictures by blocks").
use Rattle.viewport.specs.View.{ViewValue}
use Rattle.viewport.specs.declared.fine.Stretch.{Stretch}

-- its columns
abbrev pub block_columns : ViewValue → Stretch
block_columns view = record { first = view.left; count = view.width }

-- its rows
abbrev pub block_rows : ViewValue → Stretch
block_rows view = record { first = view.top; count = view.height }
