use Rattle.std.proofs.lemmas.Result.{on_ok_weaker}
use Rattle.canvas.proofs.Painting.{painted-append}
use Rattle.compose.proofs.ink.paint_text.Goals as goal

pub returns : goal.returns
returns c =
    let outline = rw (c.reach_of.ensures, c.in_ok-text.ensures, c.text.ensures.value, c.label-label.ensures.value) at c.in_ok-paint_outline.ensures in
    on_ok_weaker c.paint_ink.result
    (λ ink. painted-append c.args.canvas.now c.paint_outline.new.canvas c.paint_ink.new.canvas _ _ outline
    (rw (c.in_ok-text.ensures, c.text.ensures.value, c.label-label.ensures.value) at ink))
    c.paint_ink.ensures
