use Rattle.std.proofs.Common.{◌∙◌}
use Rattle.std.proofs.lemmas.Result.{on_ok_weaker}
use Rattle.std.specs.Str.{chars}
use Rattle.canvas.specs.Shapes.{Written}
use Rattle.compose.proofs.Labelling.{outlined}
use Rattle.canvas.proofs.Painting.{painted-none}
use Rattle.compose.proofs.ink.WrittenText.paint_outline.Goals as goal

pub returns-in-Some : goal.returns-in-Some
returns-in-Some c =
    let w : Written = record { font = c.self.inside.font.now; characters = chars c.self.inside.text.now; at = c.self.inside.at } in
    on_ok_weaker c.paint_outlines.result
    (λ filled. rw (← c.self.view_is, c.in-Some.is)
    (outlined w c.deref.result.now c.in-Some.colour c.args.canvas.now c.paint_outlines.new.canvas (c.deref.ensures.value ∙ c.self.invariant) c.args.reach filled))
    c.paint_outlines.ensures

pub returns-in-None : goal.returns-in-None
returns-in-None c = rw c.in-None.is (painted-none c.args.canvas.now)
