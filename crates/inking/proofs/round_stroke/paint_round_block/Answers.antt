use Rattle.std.proofs.Common.{◌∙◌, sym}
use Rattle.inking.proofs.RoundBlocks.{block-apart}
use Rattle.inking.proofs.round_stroke.paint_round_block.Goals as goal

pub returns-then-misses-clause-filled : goal.returns-then-misses-clause-filled
returns-then-misses-clause-filled c =
    block-apart c.args.pen.now c.args.canvas.now c.args.from c.args.block.now.vertices.now c.args.block.now.area c.misses.ensures.limits c.requires.sides c.width-area.ensures.area c.requires.has
    (sym c.misses.ensures.value ∙ c.if-misses.true)
