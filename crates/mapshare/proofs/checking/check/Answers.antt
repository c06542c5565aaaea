use Rattle.std.proofs.Common.{◌≡◌, List, ℕ, Ok, sym, ◌∙◌, ap, subst, arith}
use Rattle.batches.specs.Batch.{IsBatchErrorOf, State, batched}
use Rattle.mapshare.specs.Checking.{last_of}
use Rattle.mapshare.proofs.Checks.{checks_one, stops_there}
use Rattle.mapshare.proofs.checking.check.Goals as goal

pub returns-in-Err-clause-checked : goal.returns-in-Err-clause-checked
returns-in-Err-clause-checked c =
    let l = c.loop-count in
    let batch = c.index-batches-count.result in
    let refused : IsBatchErrorOf (batched batch.items (last_of c.args.machine.now l.last)) c.in-Err.error =
    subst (λ (b : List ℕ). IsBatchErrorOf (batched b (last_of c.args.machine.now l.last)) c.in-Err.error) c.as_slice.ensures.value
    (subst (λ (s : State). IsBatchErrorOf (batched c.as_slice.result.now s) c.in-Err.error) c.last_of.ensures c.in-Err.ensures.refused) in
    stops_there c.args.machine.now (last_of c.args.machine.now l.last) c.args.batches.now l.count batch c.loop-count-test.true c.index-batches-count.is l.invariant.leads c.in-Err.error refused

pub loop-count-preserved : goal.loop-count-preserved
loop-count-preserved c =
    let l = c.loop-count in
    let batch = c.index-batches-count.result in
    let done : batched batch.items (last_of c.args.machine.now l.last) ≡ Ok c.in-Ok.next =
    ap (λ (b : List ℕ). batched b (last_of c.args.machine.now l.last)) (sym c.as_slice.ensures.value)
    ∙ (ap (batched c.as_slice.result.now) (sym c.last_of.ensures) ∙ c.in-Ok.ensures.accepted) in
    record {
      leads = checks_one c.args.machine.now (last_of c.args.machine.now l.last) c.args.batches.now l.count batch c.loop-count-test.true c.index-batches-count.is l.invariant.leads c.in-Ok.next done;
      some = omega arith;
      room = omega (arith, c.in-Ok.ensures.room);
    }
