use Rattle.std.proofs.Common.{◌≡◌, ℕ, length, subst, arith}
use Rattle.journalfile.specs.Log.{NoOther}
use Rattle.test_logs.specs.Tape.{IsLeft}
use Rattle.test_logs.proofs.Taping.{sync_keeps, elapses}
use Rattle.test_logs.proofs.tape.TapeLog.sync.Goals as goal

pub returns-clause-crash : goal.returns-clause-crash
returns-clause-crash c reliable =
    let long : length c.args.self.now.bytes.items ≡ c.len-self.result = omega (arith, c.len-self.ensures) in
    subst (λ (n : ℕ). NoOther (IsLeft c.args.self.now.bytes.items c.args.self.now.synced) (IsLeft c.args.self.now.bytes.items n)) long
    (sync_keeps c.args.self.now.bytes.items c.args.self.now.synced)

pub returns-clause-time : goal.returns-clause-time
returns-clause-time c reliable =
    let noted = c.in_ok-note.ensures.ok in
    elapses c.args.self.now.past.items c.note.new.past.items noted.0 c.args.self.now.bytes.items c.args.self.now.synced c.args.self.now.bytes.items c.len-self.result noted.1 noted.2 noted.3
