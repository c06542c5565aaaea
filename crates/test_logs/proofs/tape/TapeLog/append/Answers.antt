use Rattle.test_logs.specs.Tape.{IsLeft}
use Rattle.test_logs.proofs.Taping.{torn_stays, torn_adds, elapses}
use Rattle.test_logs.proofs.tape.TapeLog.append.Goals as goal

pub returns-then-self-clause-crash : goal.returns-then-self-clause-crash
returns-then-self-clause-crash c reliable = torn_stays c.args.bytes.now (IsLeft c.args.self.now.bytes.items c.args.self.now.synced)

pub returns-in_err-longer-clause-crash : goal.returns-in_err-longer-clause-crash
returns-in_err-longer-clause-crash c reliable = torn_stays c.args.bytes.now (IsLeft c.args.self.now.bytes.items c.args.self.now.synced)

pub returns-in_err-note-clause-crash : goal.returns-in_err-note-clause-crash
returns-in_err-note-clause-crash c reliable = torn_stays c.args.bytes.now (IsLeft c.args.self.now.bytes.items c.args.self.now.synced)

pub returns-then-count-bytes-clause-crash : goal.returns-then-count-bytes-clause-crash
returns-then-count-bytes-clause-crash c reliable = torn_adds c.args.self.now.bytes.items c.in_ok-longer.longer.items c.args.bytes.now c.args.self.now.synced c.min-count.result c.in_ok-longer.ensures

pub returns-clause-crash : goal.returns-clause-crash
returns-clause-crash c reliable = torn_adds c.args.self.now.bytes.items c.in_ok-longer.longer.items c.args.bytes.now c.args.self.now.synced c.min-count.result c.in_ok-longer.ensures

pub returns-then-count-bytes-clause-time : goal.returns-then-count-bytes-clause-time
returns-then-count-bytes-clause-time c reliable =
    let noted = c.in_ok-note.ensures.ok in
    elapses c.args.self.now.past.items c.note.new.past.items noted.0 c.args.self.now.bytes.items c.args.self.now.synced c.in_ok-longer.longer.items c.args.self.now.synced noted.1 noted.2 noted.3

pub returns-clause-time : goal.returns-clause-time
returns-clause-time c reliable =
    let noted = c.in_ok-note.ensures.ok in
    elapses c.args.self.now.past.items c.note.new.past.items noted.0 c.args.self.now.bytes.items c.args.self.now.synced c.in_ok-longer.longer.items c.args.self.now.synced noted.1 noted.2 noted.3
