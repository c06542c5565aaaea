use Rattle.turns.proofs.Advancing.{receives-advance, ends-advance, receives-then}
use Rattle.turns.proofs.turn.take.Goals as goal

pub returns-in_default-clause-advances : goal.returns-in_default-clause-advances
returns-in_default-clause-advances g c = receives-advance g.A.Asks.answers g.T.Transport _ _ _ _ _ c.receive.ensures.receives

pub returns-in-End-clause-advances : goal.returns-in-End-clause-advances
returns-in-End-clause-advances g c =
    receives-then g.A.Asks.answers g.T.Transport _ _ _ _ _ c.receive.ensures.receives
    (ends-advance g.A.Asks.answers g.T.Transport _ _ _ _ c.take_end.ensures.said)

pub returns-in-Failed-clause-advances : goal.returns-in-Failed-clause-advances
returns-in-Failed-clause-advances g c = receives-advance g.A.Asks.answers g.T.Transport _ _ _ _ _ c.receive.ensures.receives

pub returns-in-WouldBlock-clause-advances : goal.returns-in-WouldBlock-clause-advances
returns-in-WouldBlock-clause-advances g c = receives-advance g.A.Asks.answers g.T.Transport _ _ _ _ _ c.receive.ensures.receives
