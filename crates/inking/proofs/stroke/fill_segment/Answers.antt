use Rattle.std.proofs.Common.{◌∙◌, Some, sym}
use Rattle.inking.proofs.Stripping.{filled-flat, filled-point, filled-steep}
use Rattle.inking.proofs.stroke.fill_segment.Goals as goal

pub returns-then-is_steep : goal.returns-then-is_steep
returns-then-is_steep c =
    filled-steep c.args.width c.args.edge (λ i j. Some c.args.colour) c.down.result c.args.canvas.now c.fill_down.new.canvas c.down.ensures (sym c.is_steep.ensures ∙ c.if-is_steep.true) c.fill_down.ensures

pub returns-in-Some : goal.returns-in-Some
returns-in-Some c =
    filled-flat c.args.width c.args.edge (λ i j. Some c.args.colour) c.in-Some.strip c.args.canvas.now c.fill_across.new.canvas c.in-Some.ensures.some
    (sym c.is_steep.ensures ∙ c.if-is_steep.false) c.fill_across.ensures

pub returns-in_default : goal.returns-in_default
returns-in_default c =
    filled-point c.args.width c.args.edge (λ i j. Some c.args.colour) c.args.canvas.now (sym c.is_steep.ensures ∙ c.if-is_steep.false) (c.across.ensures.none c.in_default.is)
