use Rattle.supersampling.specs.TileRows.{HasTileRows}
use Rattle.supersampling.proofs.tile_rows.fill_tile.Given as goal

abbrev pub invariant-loop-row : goal.invariant-loop-row
invariant-loop-row l = HasTileRows l.fine l.width l.tile l.row l.fn.pixels l.pixels
