use Rattle.supersampling.proofs.Tiling.{drawn-by, tile-within}
use Rattle.supersampling.proofs.tiles.draw_tile.Goals as goal

pub block-requires-clause-across : goal.block-requires-clause-across
block-requires-clause-across g c =
    tile-within c.factor-factor.result (g.F.FinePicture.factor c.args.fine.now) c.args.tile.column c.args.tile.columns (g.M.MeanPicture.picture c.args.picture.now).width (g.F.FinePicture.columns c.args.fine.now)
    c.stretch-across.result.first c.stretch-across.result.count c.factor-factor.ensures.value c.stretch-across.ensures.first c.stretch-across.ensures.count c.requires.columns c.requires.tile.across

pub block-requires-clause-down : goal.block-requires-clause-down
block-requires-clause-down g c =
    tile-within c.factor-factor.result (g.F.FinePicture.factor c.args.fine.now) c.args.tile.row c.args.tile.rows (g.M.MeanPicture.picture c.args.picture.now).height (g.F.FinePicture.rows c.args.fine.now)
    c.stretch-down.result.first c.stretch-down.result.count c.factor-factor.ensures.value c.stretch-down.ensures.first c.stretch-down.ensures.count c.requires.rows c.requires.tile.down

pub returns : goal.returns
returns g c =
    drawn-by c.factor-factor.result (g.F.FinePicture.factor c.args.fine.now) (g.F.FinePicture.colour c.args.fine.now) c.args.tile c.stretch-across.result c.stretch-down.result
    c.in_ok-canvas.canvas (g.M.MeanPicture.picture c.args.picture.now) (g.M.MeanPicture.picture c.fill.new.self) c.factor-factor.ensures.value
    c.stretch-across.ensures.first c.stretch-across.ensures.count c.stretch-down.ensures.first c.stretch-down.ensures.count c.in_ok-canvas.ensures c.fill.ensures
