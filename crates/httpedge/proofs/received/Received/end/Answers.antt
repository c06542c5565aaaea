use Rattle.std.proofs.Common.{arith}
use Rattle.httpedge.proofs.Taking.{end-refused, end-kept}
use Rattle.httpedge.proofs.received.Received.end.Goals as goal

pub returns-in-None-clause-ends : goal.returns-in-None-clause-ends
returns-in-None-clause-ends c =
    end-refused c.args.self.now.bytes.items _ _ c.args.self.now.closes c.args.self.now.decision c.is_empty.result c.in-None.is (omega arith) c.is_empty.ensures c.if-not-is_empty.true (c.requires.received.no_head c.in-None.is)

pub returns-else-not-is_empty-clause-ends : goal.returns-else-not-is_empty-clause-ends
returns-else-not-is_empty-clause-ends c =
    end-kept c.args.self.now.bytes.items _ _ c.args.self.now.closes c.args.self.now.decision c.is_empty.result c.in-None.is (omega arith) c.is_empty.ensures c.if-not-is_empty.false
