use Rattle.compose.proofs.Blocking.{block-drawn}
use Rattle.compose.proofs.block.draw_block.Goals as goal

pub returns : goal.returns
returns g c =
    block-drawn c.args.scene.now c.args.asked.now.chosen.now c.args.asked.now.background c.args.labels.now.candidates c.args.labels.now.placed
    c.in_ok-drawing.drawing c.draw_chosen.new.drawing c.into_canvas-canvas.result c.paint_whole_labels.new.canvas
    c.in_ok-drawing.ensures c.in_ok-draw_chosen.ensures c.into_canvas-canvas.ensures c.requires.candidates c.in_ok-paint_whole_labels.ensures
