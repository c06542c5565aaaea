use Rattle.test_logs.specs.Tape.{IsLeft}
use Rattle.test_logs.proofs.Taping.{cut_stays, cut_shortens, elapses}
use Rattle.test_logs.proofs.tape.TapeLog.cut.Goals as goal

pub returns-then-self-clause-crash : goal.returns-then-self-clause-crash
returns-then-self-clause-crash c reliable = cut_stays c.args.end (IsLeft c.args.self.now.bytes.items c.args.self.now.synced)

pub returns-in_err-note-clause-crash : goal.returns-in_err-note-clause-crash
returns-in_err-note-clause-crash c reliable = cut_stays c.args.end (IsLeft c.args.self.now.bytes.items c.args.self.now.synced)

pub returns-clause-crash : goal.returns-clause-crash
returns-clause-crash c reliable = cut_shortens c.args.self.now.bytes.items c.truncate.new.self.items c.args.end c.args.self.now.synced c.min-self.result (c.requires reliable) c.truncate.ensures.items c.min-self.ensures

pub returns-clause-time : goal.returns-clause-time
returns-clause-time c reliable =
    let noted = c.in_ok-note.ensures.ok in
    elapses c.args.self.now.past.items c.note.new.past.items noted.0 c.args.self.now.bytes.items c.args.self.now.synced c.truncate.new.self.items c.min-self.result noted.1 noted.2 noted.3
