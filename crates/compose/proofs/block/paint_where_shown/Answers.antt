use Rattle.compose.proofs.Labelling.{text-unwritten, text-written}
use Rattle.compose.proofs.Reaching.{unseen-painted}
use Rattle.compose.proofs.block.paint_where_shown.Goals as goal

pub returns-in_default : goal.returns-in_default
returns-in_default c = text-unwritten c.args.fonts.now c.args.candidate.now c.args.at c.args.canvas.now (rw c.label.ensures.value at c.in_default.ensures)

pub returns-then-not-may_show : goal.returns-then-not-may_show
returns-then-not-may_show c =
    text-written c.args.fonts.now c.args.candidate.now c.args.at c.in-Some.font.now c.args.canvas.now c.args.canvas.now (rw c.label.ensures.value at c.in-Some.ensures)
    (unseen-painted c.in-Some.font.now c.args.candidate.now c.args.at c.args.canvas.now c.width.ensures.area
    (rw (c.reach_of.ensures, c.width.ensures.value, c.height.ensures) at (c.may_show.ensures c.if-not-may_show.true)))
