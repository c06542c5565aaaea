use Rattle.std.proofs.Common.{◌≡◌, ℕ, ◌+◌, ◌≤◌, List, [], ◌∷◌, ◌++◌, Ok, Err, length, drop, sym, ◌∙◌, ap, subst, arith, append_assoc, length-append}
use Rattle.sha2.specs.Sha256.{sha256}
use Rattle.batches.specs.Batch.{IsBatchErrorOf, batched}
use Rattle.batches.specs.declared.fault.BatchError.{BatchError}
use Rattle.journal.specs.Name.{name_bytes}
use Rattle.journal.specs.Record.{sequence_bytes, record_of, records}
use Rattle.journal.proofs.Growing.{records_push}
use Rattle.journalfile.specs.Frames.{IsAhead}
use Rattle.journalfile.proofs.Pieces.{read_more}
use Rattle.journalfile.proofs.Replaying.{after_accepted, after_refused}
use Rattle.journalfile.proofs.recovery.replay.Goals as goal

-- the records of the batches so far and one more
one_more : (name bytes rest next batch : List ℕ) (batches : List (List ℕ)) (count : ℕ) → bytes ≡ records sha256 name 1 batches ++ rest → rest ≡ record_of sha256 name (sequence_bytes (count + 1)) batch ++ next
    → count ≡ length batches → bytes ≡ records sha256 name 1 (batches ++ batch ∷ []) ++ next
one_more name bytes rest next batch batches count all found counts =
    all ∙ ap (λ (l : List ℕ). records sha256 name 1 batches ++ l) found
    ∙ sym (append_assoc (records sha256 name 1 batches) (record_of sha256 name (sequence_bytes (count + 1)) batch) next)
    ∙ ap (λ (l : List ℕ). l ++ next) (sym (records_push sha256 name 1 (count + 1) batches batch (omega arith)))

pub returns-in-Err-Fault-clause-fault : goal.returns-in-Err-Fault-clause-fault
returns-in-Err-Fault-clause-fault g c reliable =
    let name = (name_bytes c.args.name.now) in
    let file = g.L.Log.content c.args.log.now in
    let now = g.L.Log.content c.loop-batch.log in
    let start = c.loop-batch.frames.position in
    let end = c.next_record.new.frames.position in
    let batch = c.in-Some.batch.items in
    let so_far = c.loop-batch.invariant.so_far in
    let there : drop start now ≡ record_of sha256 name (sequence_bytes (c.loop-batch.count + 1)) batch ++ drop end now = rw c.in-Some.is at c.in_ok-batch.ensures.record reliable in
    let found = subst (λ (f : List ℕ). drop start f ≡ record_of sha256 name (sequence_bytes (c.loop-batch.count + 1)) batch ++ drop end f) (c.loop-batch.invariant.read reliable).same there in
    let refused : batched batch c.loop-batch.machine ≡ Err c.in-Err-Fault.field-0-0 =
    ap (λ (l : List ℕ). batched l c.loop-batch.machine) (sym c.as_slice.ensures.value)
    ∙ subst (λ (e : BatchError). IsBatchErrorOf (batched c.as_slice.result.now c.loop-batch.machine) e) c.in-Err-Fault.field-0-is c.in-Err-Fault.ensures.refused in (
      so_far.0 ++ batch ∷ [],
      drop end file,
      one_more name (drop c.args.frames.now.position file) (drop start file) (drop end file) batch so_far.0 c.loop-batch.count (so_far.3 reliable) found so_far.1,
      omega (arith, so_far.1, length-append so_far.0 (batch ∷ [])),
      after_refused _ _ so_far.0 batch _ so_far.2 refused,
    )

pub loop-batch-preserved : goal.loop-batch-preserved
loop-batch-preserved g c =
    let name = (name_bytes c.args.name.now) in
    let file = g.L.Log.content c.args.log.now in
    let now = g.L.Log.content c.loop-batch.log in
    let start = c.loop-batch.frames.position in
    let end = c.next_record.new.frames.position in
    let batch = c.in-Some.batch.items in
    let so_far = c.loop-batch.invariant.so_far in
    let done : batched batch c.loop-batch.machine ≡ Ok c.batch.new.self = ap (λ (l : List ℕ). batched l c.loop-batch.machine) (sym c.as_slice.ensures.value) ∙ c.in-Ok.ensures.published.0 in
    let further : start + 2 ≤ end = rw c.in-Some.is at c.in_ok-batch.ensures.position in
    record {
      so_far = (
        so_far.0 ++ batch ∷ [],
        omega (arith, so_far.1, length-append so_far.0 (batch ∷ [])),
        after_accepted _ _ _ so_far.0 batch so_far.2 done,
        λ reliable.
            let there : drop start now ≡ record_of sha256 name (sequence_bytes (c.loop-batch.count + 1)) batch ++ drop end now = rw c.in-Some.is at c.in_ok-batch.ensures.record reliable in
            let found = subst (λ (f : List ℕ). drop start f ≡ record_of sha256 name (sequence_bytes (c.loop-batch.count + 1)) batch ++ drop end f) (c.loop-batch.invariant.read reliable).same there in
            one_more name (drop c.args.frames.now.position file) (drop start file) (drop end file) batch so_far.0 c.loop-batch.count (so_far.3 reliable) found so_far.1,
      );
      end = c.position-end-in-Some.ensures;
      room = omega (arith, c.loop-batch.invariant.room, further);
      bound = c.in_ok-batch.ensures.bound;
      ahead = λ reliable. subst (λ (f : List ℕ). IsAhead f c.next_record.new.frames) (c.loop-batch.invariant.read reliable).same (c.in_ok-batch.ensures.ahead reliable);
      read = λ reliable. read_more g.L.Log.content g.L.Log.may_leave g.L.Log.moment g.L.Log.left_since c.args.log.now c.loop-batch.log c.next_record.new.log (c.loop-batch.invariant.read reliable) (c.in_ok-batch.ensures.read reliable);
    }
