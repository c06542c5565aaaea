use Rattle.inking.proofs.round_stroke.paint_long_step.Goals as goal

pub returns : goal.returns
returns c = rw (c.segment.ensures, c.colour.ensures) at c.paint_cover.ensures
