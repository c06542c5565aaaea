use Rattle.inking.proofs.RoundBlocks.{disc-after, same-disc}
use Rattle.inking.proofs.round_stroke.paint_next.Goals as goal

pub returns-then-is_same-clause-filled : goal.returns-then-is_same-clause-filled
returns-then-is_same-clause-filled c =
    same-disc c.args.pen.now c.args.canvas.now c.args.tip.at c.args.to (c.is_same.ensures c.if-is_same.true) (c.requires c.if-tip.true)

pub returns-clause-tip : goal.returns-clause-tip
returns-clause-tip c = λ h. disc-after c.args.pen.now c.args.tip.at c.args.to c.args.canvas.now c.paint_round_step.new.canvas c.in_ok-paint_round_step.ensures
