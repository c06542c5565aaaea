use Rattle.labelcache.proofs.trial.first_fit.Goals as goal

pub returns-in-None-clause-none : goal.returns-in-None-clause-none
returns-in-None-clause-none c = λ i at is fits. (rw c.label.ensures.value at c.in-None.ensures.none) i at is fits.free
