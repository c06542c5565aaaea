use Rattle.std.proofs.Common.{inr}
use Rattle.test_logs.proofs.Taping.{elapses}
use Rattle.test_logs.proofs.tape.TapeReplaceable.replace.Goals as goal

pub returns-clause-crash : goal.returns-clause-crash
returns-clause-crash c reliable file left = inr (c.requires.synced reliable file left)

pub returns-clause-time : goal.returns-clause-time
returns-clause-time c reliable =
    let noted = c.in-Ok.ensures.ok in
    elapses c.args.self.now.past.items c.note.new.past.items noted.0 c.args.self.now.bytes.items c.args.self.now.synced c.args.successor.bytes.items c.args.successor.synced noted.1 noted.2 noted.3
