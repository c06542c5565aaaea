use Rattle.mercator.proofs.latitudes.+last_step.Given as goal

abbrev pub decreases-last_step : goal.decreases-last_step
decreases-last_step l = l.stride
