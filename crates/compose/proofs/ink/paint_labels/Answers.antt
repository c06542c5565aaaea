use Rattle.std.proofs.lemmas.Result.{on_ok_weaker}
use Rattle.compose.proofs.Labelling.{labelled}
use Rattle.compose.proofs.ink.paint_labels.Goals as goal

pub returns : goal.returns
returns c =
    let placed = rw (c.pixels.ensures.value, c.pixels-2.ensures.value, c.width.ensures, c.height.ensures, c.projection-projection.ensures, c.fonts-fonts.ensures) at c.in_ok-placed.ensures.placed in
    on_ok_weaker c.paint_placed.result
    (λ painted. labelled c.args.scene.now c.args.labels.now c.in_ok-placed.placed.items c.args.canvas.now c.paint_placed.new.canvas placed
    (rw (c.fonts-fonts.ensures, c.deref.ensures.value) at painted))
    c.paint_placed.ensures
