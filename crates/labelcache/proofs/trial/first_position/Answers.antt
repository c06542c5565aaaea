use Rattle.labelcache.proofs.Positions.{one-position}
use Rattle.labelcache.proofs.trial.first_position.Goals as goal

pub returns-in_default : goal.returns-in_default
returns-in_default c =
    rw (one-position c.args.position c.in_default.not-Automatic) (record { corner = c.first_free-in_default.ensures.corner; some = c.first_free-in_default.ensures.some; none = c.first_free-in_default.ensures.none })

pub returns-in-Automatic-clause-none : goal.returns-in-Automatic-clause-none
returns-in-Automatic-clause-none c = rw c.in-Automatic.is c.first_free.ensures.none
