use Rattle.turns.proofs.Advancing.{then-sends}
use Rattle.turns.proofs.turn.serve_turn.Goals as goal

pub returns-in-None-clause-advances : goal.returns-in-None-clause-advances
returns-in-None-clause-advances g c =
    then-sends g.A.Asks.answers g.T.Transport _ _ _ _ _ c.take_on-found.ensures.advances c.send_on.ensures.sends
