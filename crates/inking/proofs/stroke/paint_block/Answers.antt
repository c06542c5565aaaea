use Rattle.std.proofs.Common.{◌∙◌, sym, subst}
use Rattle.geom.specs.World.{Place}
use Rattle.inking.specs.Stroked.{IsTrail}
use Rattle.inking.proofs.StrokeBlocks.{block-quiet}
use Rattle.inking.proofs.stroke.paint_block.Goals as goal

pub returns-then-has_box-clause-trail : goal.returns-then-has_box-clause-trail
returns-then-has_box-clause-trail c =
    subst (λ (p : Place). IsTrail c.args.pen.now c.args.canvas.now (record { from = p; quiet = c.args.trail.quiet })) (sym c.last_of.ensures)
    (block-quiet c.args.pen.now c.args.canvas.now c.args.trail c.args.block.now.area c.args.block.now.vertices.now (sym c.has_box.ensures ∙ c.if-has_box.true) c.requires.has c.requires.trail).1

pub returns-then-has_box-clause-filled : goal.returns-then-has_box-clause-filled
returns-then-has_box-clause-filled c =
    (block-quiet c.args.pen.now c.args.canvas.now c.args.trail c.args.block.now.area c.args.block.now.vertices.now (sym c.has_box.ensures ∙ c.if-has_box.true) c.requires.has c.requires.trail).0
