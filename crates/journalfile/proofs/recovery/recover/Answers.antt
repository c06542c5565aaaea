use Rattle.std.proofs.Common.{ℕ, ◌+◌, sym, ◌∙◌, ap, ◌≡◌, length, rules}
use Rattle.batches.specs.Batch.{State, accepted}
use Rattle.mapmachine.proofs.Counting.{accepted_counts}
use Rattle.sharing.proofs.Counting.{after_counts}
use Rattle.journalfile.proofs.Opening.{transient}
use Rattle.journalfile.proofs.recovery.recover.Goals as goal

pub returns-in-Err-clause-opens : goal.returns-in-Err-clause-opens
returns-in-Err-clause-opens g c =
    let long : length c.args.name.now.fingerprint ≡ 32 = search rules in
    λ reliable batches stands some. transient c.args.name.now g.L.Log.content c.args.log.now c.open_log.new.log c.args.machine.now batches long stands some c.in-Err.fault (c.in-Err.ensures.fault reliable)

pub returns-in-Ok-clause-counted : goal.returns-in-Ok-clause-counted
returns-in-Ok-clause-counted g c =
    let recovered = c.in-Ok.ensures.recovered in
    after_counts accepted (λ (s : State). s.sequence) accepted_counts c.args.machine.now c.open_log.new.machine recovered.batches recovered.after ∙ ap (λ (n : ℕ). c.args.machine.now.sequence + n) (sym recovered.counted)
