use Rattle.std.proofs.Common.{◌-◌, ◌≤◌}
use Rattle.supersampling.specs.Tiles.{HasColumns, HasRows, HasSameSides}
use Rattle.supersampling.proofs.tiles.draw_strip.Given as goal

abbrev pub invariant-loop-column : goal.invariant-loop-column
invariant-loop-column g l =
    (l.column ≤ l.width)
    × HasSameSides (g.M.MeanPicture.picture l.fn.picture) (g.M.MeanPicture.picture l.picture)
    × HasRows (g.F.FinePicture.factor l.fine) (g.F.FinePicture.colour l.fine) l.strip.row (g.M.MeanPicture.picture l.picture)
    × HasColumns (g.F.FinePicture.factor l.fine) (g.F.FinePicture.colour l.fine) l.strip.row l.strip.rows l.column (g.M.MeanPicture.picture l.picture)

abbrev pub decreases-loop-column : goal.decreases-loop-column
decreases-loop-column g l = l.width - l.column
