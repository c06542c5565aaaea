use Rattle.inking.proofs.round_stroke.fill_short_step.Goals as goal

pub returns : goal.returns
returns c = rw (c.step.ensures, c.colour.ensures) at c.fill_step.ensures
