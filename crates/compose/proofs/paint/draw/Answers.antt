use Rattle.compose.proofs.Finishing.{finished}
use Rattle.compose.proofs.paint.draw.Goals as goal

pub returns : goal.returns
returns g c =
    let picture = finished c.args.scene.now c.args.asked.now.chosen.now c.args.asked.now.background c.in_ok-drawing.drawing c.draw_chosen.new.drawing c.in_ok-into_labelled.field-0
    (rw c.new.ensures at c.in_ok-drawing.ensures) c.in_ok-draw_chosen.ensures c.in_ok-into_labelled.ensures in
    rw c.into_picture.ensures picture
