use Rattle.supersampling.proofs.Tiling.{first-on-side}
use Rattle.supersampling.proofs.smooth.smooth_picture.Goals as goal

pub block-corner-requires-clause-across : goal.block-corner-requires-clause-across
block-corner-requires-clause-across g c =
    rw (c.first_pixel.ensures.first, c.first_pixel.ensures.count)
    (first-on-side c.args.scene.now.view.columns c.args.scene.now.view.factor c.plain_columns.result (rw c.fine-fine.ensures at c.plain_columns.ensures)
    (rw (← c.fine-fine.ensures, ← c.factor.ensures, ← c.times.ensures.value) c.times.ensures.limits.some) (rw (← c.pixels.ensures.value) c.pixels.ensures.limits.some))

pub block-corner-requires-clause-down : goal.block-corner-requires-clause-down
block-corner-requires-clause-down g c =
    rw (c.first_pixel-2.ensures.first, c.first_pixel-2.ensures.count)
    (first-on-side c.args.scene.now.view.rows c.args.scene.now.view.factor c.plain_rows.result (rw c.fine-fine.ensures at c.plain_rows.ensures)
    (rw (← c.fine-fine.ensures, ← c.factor.ensures, ← c.times.ensures.value) c.times.ensures.limits.some) (rw (← c.pixels-2.ensures.value) c.pixels-2.ensures.limits.some))
