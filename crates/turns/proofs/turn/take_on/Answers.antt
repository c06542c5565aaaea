use Rattle.turns.proofs.Advancing.{rests}
use Rattle.turns.proofs.turn.take_on.Goals as goal

pub returns-then-not-wants_more-clause-advances : goal.returns-then-not-wants_more-clause-advances
returns-then-not-wants_more-clause-advances g c = rests g.A.Asks.answers g.T.Transport _

pub returns-then-is_done-clause-advances : goal.returns-then-is_done-clause-advances
returns-then-is_done-clause-advances g c = rests g.A.Asks.answers g.T.Transport _
