use Rattle.std.proofs.Common.{arith}
use Rattle.supersampling.proofs.Tiling.{columns-more, rows-kept, two-changes}
use Rattle.supersampling.proofs.tiles.draw_strip.Goals as goal

pub loop-column-preserved : goal.loop-column-preserved
loop-column-preserved g c =
    let old = g.M.MeanPicture.picture c.loop-column.picture in
    let new = g.M.MeanPicture.picture c.draw_tile.new.picture in
    let factor = g.F.FinePicture.factor c.args.fine.now in
    let colour = g.F.FinePicture.colour c.args.fine.now in (
      omega arith,
      two-changes (g.M.MeanPicture.picture c.args.picture.now) old new c.loop-column.invariant.1 c.in_ok-draw_tile.ensures.sides,
      rows-kept factor colour _ old new c.in_ok-draw_tile.ensures c.loop-column.invariant.2,
      columns-more factor colour _ old new c.in_ok-draw_tile.ensures c.loop-column.invariant.3,
    )
