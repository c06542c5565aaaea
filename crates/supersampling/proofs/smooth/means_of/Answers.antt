use Rattle.supersampling.proofs.Tiling.{smooth-drawn}
use Rattle.supersampling.proofs.smooth.means_of.Goals as goal

pub returns : goal.returns
returns g c =
    let scene = c.args.scene.now in
    let labels = c.args.labels.now in
    smooth-drawn scene.map scene.view scene.scale c.args.asked.now.chosen.now c.args.asked.now.background labels.candidates labels.placed
    c.in_ok-means.means c.draw_tiles.new.picture
    (rw c.in_ok-means.ensures (rw c.fine-fine.ensures at c.plain_columns.ensures)) (rw c.in_ok-means.ensures (rw c.fine-fine.ensures at c.plain_rows.ensures))
    c.width-width.ensures.limits c.requires.candidates c.requires.placed c.in_ok-draw_tiles.ensures.sides c.in_ok-draw_tiles.ensures.rows
