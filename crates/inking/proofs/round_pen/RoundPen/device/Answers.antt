use Rattle.inking.proofs.round_pen.RoundPen.device.Goals as goal

pub returns : goal.returns
returns c = rw (← c.self.view_is) c.device.ensures
