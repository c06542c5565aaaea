-- The sequence counts the batches that were published.
use Rattle.std.proofs.Common.{◌≡◌, ℕ, ◌+◌, ◌-◌, ◌^◌, ◌==◌, Bool, true, false, List, [], ◌∷◌, length, Some, Result, Ok, Err, nat_lt, refl, ◌∙◌, arith}
use Rattle.std.specs.Result.{result_ok}
use Rattle.batches.specs.Batch.{State, accepted, batch, batched}
use Rattle.mapdefs.specs.Outcome.{and_then}
use Rattle.batches.specs.declared.fault.BatchFault.{BatchFault}
use Rattle.batches.specs.declared.fault.BatchKind.TheVariants.{TooLong, SequenceEnd}
use Rattle.batches.specs.declared.fault.TheConstants.{MAX_BATCH}
use Rattle.mapdefs.specs.declared.map.MapFields.{MapFields}
use Rattle.mapmachine.specs.Machine.{Steps, Runs, published}
use Rattle.mapmachine.specs.declared.reply.Event.{Event}
use Rattle.mapmachine.specs.declared.reply.Event.TheVariants.{Query, Batch}
use Rattle.mapmachine.specs.declared.reply.Reply.{Reply}
use Rattle.mapmachine.specs.declared.reply.Reply.TheVariants.{Answered, Published, Refused, NoMemory}

-- a batch that has no fault is counted
batch-counts : (bytes : List ℕ) (s next : State) → batched bytes s ≡ Ok next → next.sequence ≡ s.sequence + 1
batch-counts bytes s next e = short (nat_lt MAX_BATCH (length bytes)) refl
  where
    changed : (r : Result MapFields BatchFault) → and_then r (λ m. Ok (record { map = m; sequence = s.sequence + 1 })) ≡ Ok next → next.sequence ≡ s.sequence + 1
    changed (Ok m) is = let same : record { map = m; sequence = s.sequence + 1 } ≡ next = cc in rw (← same) refl
    changed (Err fault) is = cc

    countable : (t : Bool) → nat_lt MAX_BATCH (length bytes) ≡ false → (s.sequence == 2 ^ 64 - 1) ≡ t → next.sequence ≡ s.sequence + 1
    countable true fits h = let clash : Err (record { index = 0; kind = SequenceEnd }) ≡ Ok next = rw (fits, h) at e in absurd (cc)
    countable false fits h = changed (batch bytes s.map) (rw (fits, h) at e)

    short : (t : Bool) → nat_lt MAX_BATCH (length bytes) ≡ t → next.sequence ≡ s.sequence + 1
    short true h = let clash : Err (record { index = 0; kind = TooLong }) ≡ Ok next = rw h at e in absurd (cc)
    short false h = countable (s.sequence == 2 ^ 64 - 1) h refl

-- so is one that is accepted
pub accepted_counts : (s next : State) (bytes : List ℕ) → accepted s bytes ≡ Some next → next.sequence ≡ s.sequence + 1
accepted_counts s next bytes e = result-counts (batched bytes s) refl e
  where
    result-counts : (r : Result State BatchFault) → batched bytes s ≡ r → result_ok r ≡ Some next → next.sequence ≡ s.sequence + 1
    result-counts (Ok t) is e = batch-counts bytes s next (is ∙ cc e)
    result-counts (Err fault) is e = absurd (cc e)

-- one reply adds as many as it publishes, and those after it theirs
step-counts : (old next : State) (event : Event) (reply : Reply) (replies : List Reply) → Steps old event reply next →
    old.sequence + published (reply ∷ replies) ≡ next.sequence + published replies
unfolding published
step-counts old next (Query query) (Answered answer) replies step = rw step.1 refl
step-counts old next (Query query) (Published sequence) replies step = absurd step
step-counts old next (Query query) (Refused fault) replies step = absurd step
step-counts old next (Query query) NoMemory replies step = rw step refl
step-counts old next (Batch bytes) (Answered answer) replies step = absurd step
step-counts old next (Batch bytes) (Published sequence) replies step = omega (arith, batch-counts bytes old next step.0)
step-counts old next (Batch bytes) (Refused fault) replies step = rw step.1 refl
step-counts old next (Batch bytes) NoMemory replies step = rw step refl

pub counted : (old new : State) (events : List Event) (replies : List Reply) → Runs old events replies new →
    new.sequence ≡ old.sequence + published replies
unfolding published
counted old new [] [] run = rw run (omega arith)
counted old new (event ∷ events) (reply ∷ replies) (next, step, run) =
    omega (arith, step-counts old next event reply replies step, counted next new events replies run)
counted old new [] (reply ∷ replies) none = absurd none
counted old new (event ∷ events) [] none = absurd none
