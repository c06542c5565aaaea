use Rattle.httpedge.proofs.Taking.{empty-feeds}
use Rattle.httpedge.proofs.received.Received.feed.Goals as goal

pub returns-in_default-clause-feeds : goal.returns-in_default-clause-feeds
returns-in_default-clause-feeds c =
    empty-feeds c.args.self.now.bytes.items c.args.piece.now _ c.args.self.now.closes c.args.self.now.decision c.is_empty.result c.in-None.is c.is_empty.ensures c.if-not-is_empty.false
    (c.requires.received.no_head c.in-None.is) (c.requires.received.below c.in-None.is)
