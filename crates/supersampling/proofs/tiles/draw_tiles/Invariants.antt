use Rattle.std.proofs.Common.{◌-◌, ◌≤◌}
use Rattle.supersampling.specs.Tiles.{HasRows, HasSameSides}
use Rattle.supersampling.proofs.tiles.draw_tiles.Given as goal

abbrev pub invariant-loop-row : goal.invariant-loop-row
invariant-loop-row g l =
    (l.row ≤ l.height)
    × HasSameSides (g.M.MeanPicture.picture l.fn.picture) (g.M.MeanPicture.picture l.picture)
    × HasRows (g.F.FinePicture.factor l.fine) (g.F.FinePicture.colour l.fine) l.row (g.M.MeanPicture.picture l.picture)

abbrev pub decreases-loop-row : goal.decreases-loop-row
decreases-loop-row g l = l.height - l.row
