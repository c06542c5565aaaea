-- The calls of a service with a journal are steps of its lives.
use Rattle.std.proofs.Common.{◌≡◌, ◌⊎◌, inl, inr, ℕ, zero, suc, ◌+◌, ◌≤◌, List, [], ◌∷◌, ◌++◌, Option, None, Some, length, map, take, refl, sym, ◌∙◌, ap, subst, append_assoc, append-nil, arith}
use Rattle.std.specs.Prelude.{IsSome, IsSomeAnd}
use mathlib.Core.List.{IsPrefix}
use Rattle.batches.specs.Batch.{State, accepted}
use Rattle.compaction.specs.Compacted.{compacted, skipping}
use Rattle.compaction.proofs.Leading.{leads_to_the_same}
use Rattle.durability.specs.Service.{Event, IsFileOf, IsRun, IsShorter, IsStep, Published, Service, state_of}
use Rattle.durability.specs.Service as machine
use Rattle.durability.specs.Service.Event.{Checkpoint, Crash, Retry, Start, Submit}
use Rattle.durability.specs.Service.Service.{Running, Stopped}
use Rattle.journal.specs.Name.{IsBounded, journal_name, skipped_of, written_of}
use Rattle.journal.specs.Reading.{StandsFor}
use Rattle.journal.specs.declared.name.Compaction.{Compaction}
use Rattle.journal.specs.declared.name.JournalName.{JournalName}
use Rattle.journalfile.specs.Compacting.{HasCompacted, IsCompacted, StandsForLeft, compacted_name, left_out}
use Rattle.journalfile.specs.Recovery.{HasRecovered}
use Rattle.journalfile.specs.Settled.{IsSettled}
use Rattle.journalfile.proofs.Succeeding.{shorter}
use Rattle.mapshare.specs.Admin.{Batches, HasAccepted, all_of, with_batches}
use Rattle.refinement.specs.Steps.{BreaksSubmits, HasBatches, IsCheckpointOf, IsCrash, IsRetry, IsStart, IsSubmits, LeadTo, StopsCheckpoint, running}
use Rattle.sharing.proofs.Accepting.{front_accepted}
use Rattle.sharing.proofs.Shortened.{short_more}
use Rattle.sharing.specs.Sharing.{after}
use Rattle.sharing.specs.Shortened.{IsShortOf}

module _ (fingerprint : List ℕ) (start : State) (compaction : Option Compaction) where
  -- a service with these batches, of which readers are shown some
  abbrev at : List (List ℕ) → List (List ℕ) → List (List ℕ) → Service
  at own batches shown = Running (record { compaction = compaction; own = own }) batches shown

  abbrev IsShort : List (List ℕ) → List (List ℕ) → Type 0
  IsShort own batches = IsShortOf accepted skipping (skipped_of compaction) own batches

  -- where all are accepted, a journal of fewer leads to their state
  leads : (own batches : List (List ℕ)) → IsShort own batches → IsSome (after accepted start batches) → IsSome (after accepted (skipping (skipped_of compaction) start) own)
  leads own batches short some = by (after accepted start batches) refl some
    where
      by : (o : Option State) → after accepted start batches ≡ o → IsSome o → IsSome (after accepted (skipping (skipped_of compaction) start) own)
      by None is some = absurd (cc some)
      by (Some last) is some = subst IsSome (sym (short.same start last is)) refl

  -- one more batch is submitted, and pending
  submit_one : (own batches shown : List (List ℕ)) (batch : List ℕ) → IsShort (own ++ batch ∷ []) (batches ++ batch ∷ []) → IsSome (after accepted start (batches ++ batch ∷ []))
      → IsStep accepted skipping fingerprint start (at own batches shown) (Submit batch) [] (at (own ++ batch ∷ []) (batches ++ batch ∷ []) shown)
  submit_one own batches shown batch short some = inr (inl (leads (own ++ batch ∷ []) (batches ++ batch ∷ []) short some, inr (refl, refl)))

  -- and so are some
  pub submit_all : (more own batches shown : List (List ℕ)) → IsShort own batches → IsSome (after accepted start (batches ++ more))
      → IsRun accepted skipping fingerprint start (at own batches shown) (map Submit more) [] (at (own ++ more) (batches ++ more) shown)
  submit_all [] own batches shown short some = (
    refl,
    ap (λ (l : List (List ℕ)). at l (batches ++ []) shown) (append-nil own) ∙ ap (λ (l : List (List ℕ)). at own l shown) (append-nil batches),
  )
  submit_all (batch ∷ more) own batches shown short some =
      let some_now : IsSome (after accepted start ((batches ++ batch ∷ []) ++ more)) = subst (λ (l : List (List ℕ)). IsSome (after accepted start l)) (sym (append_assoc batches (batch ∷ []) more)) some in
      let longer = short_more accepted skipping (skipped_of compaction) own batches (batch ∷ []) short in
      let rest = submit_all more (own ++ batch ∷ []) (batches ++ batch ∷ []) shown longer some_now in (
        [],
        [],
        at (own ++ batch ∷ []) (batches ++ batch ∷ []) shown,
        submit_one own batches shown batch longer (front_accepted accepted start (batches ++ batch ∷ []) more some_now),
        subst (λ (s : Service). IsRun accepted skipping fingerprint start (at (own ++ batch ∷ []) (batches ++ batch ∷ []) shown) (map Submit more) [] s)
            (ap (λ (l : List (List ℕ)). at l ((batches ++ batch ∷ []) ++ more) shown) (append_assoc own (batch ∷ []) more)
            ∙ ap (λ (l : List (List ℕ)). at (own ++ batch ∷ more) l shown) (append_assoc batches (batch ∷ []) more))
            rest,
        refl,
      )

  -- a service that has stopped does nothing
  idle : (more batches : List (List ℕ)) (file : List ℕ) → IsRun accepted skipping fingerprint start (Stopped batches file) (map Submit more) [] (Stopped batches file)
  idle [] batches file = (refl, refl)
  idle (batch ∷ more) batches file = ([], [], Stopped batches file, (refl, refl), idle more batches file, refl)

  -- some are submitted, and the service stops at one, with the first of them kept
  pub submit_broken : (batches first own all shown : List (List ℕ)) (file : List ℕ) → IsShort own all → IsBounded compaction → 1 ≤ length batches → IsPrefix first batches
      → IsSome (after accepted start (all ++ first)) → StandsFor (journal_name fingerprint compaction) file (own ++ first)
      → IsRun accepted skipping fingerprint start (at own all shown) (map Submit batches) [] (Stopped (all ++ first) file)
  submit_broken [] first own all shown file short bounded some begins made stood = absurd (omega (arith, some))
  submit_broken (batch ∷ more) [] own all shown file short bounded some begins made stood = (
    [],
    [],
    Stopped (all ++ []) file,
    inr (inr (
      file,
      inl (
        record { bounded = bounded; stands = subst (StandsFor (journal_name fingerprint compaction) file) (append-nil own) stood },
        (refl, ap (λ (l : List (List ℕ)). Stopped l file) (append-nil all)),
      ),
    )),
    idle more (all ++ []) file,
    refl,
  )
  submit_broken (batch ∷ more) (b ∷ []) own all shown file short bounded some begins made stood =
      let same : b ≡ batch = cc (begins.1) in
      let longer = short_more accepted skipping (skipped_of compaction) own all (b ∷ []) short in (
        [],
        [],
        Stopped (all ++ b ∷ []) file,
        subst (λ (l : List ℕ). IsStep accepted skipping fingerprint start (at own all shown) (Submit l) [] (Stopped (all ++ b ∷ []) file)) same
            (inr (inr (file, inr (leads (own ++ b ∷ []) (all ++ b ∷ []) longer made, record { bounded = bounded; stands = stood }, (refl, refl))))),
        idle more (all ++ b ∷ []) file,
        refl,
      )
  submit_broken (batch ∷ []) (b ∷ c ∷ first) own all shown file short bounded some begins made stood = absurd (cc (begins.1))
  submit_broken (batch ∷ d ∷ more) (b ∷ c ∷ first) own all shown file short bounded some begins made stood =
      let same : b ≡ batch = cc (begins.1) in
      let rest_of : (c ∷ first) ++ begins.0 ≡ d ∷ more = cc (begins.1) in
      let longer = short_more accepted skipping (skipped_of compaction) own all (b ∷ []) short in
      let made_now = subst (λ (l : List (List ℕ)). IsSome (after accepted start l)) (sym (append_assoc all (b ∷ []) (c ∷ first))) made in
      let stood_now = subst (StandsFor (journal_name fingerprint compaction) file) (sym (append_assoc own (b ∷ []) (c ∷ first))) stood in
      let rest = submit_broken (d ∷ more) (c ∷ first) (own ++ b ∷ []) (all ++ b ∷ []) shown file longer bounded (omega arith) (begins.0, rest_of) made_now stood_now in (
        [],
        [],
        at (own ++ b ∷ []) (all ++ b ∷ []) shown,
        subst (λ (l : List ℕ). IsStep accepted skipping fingerprint start (at own all shown) (Submit l) [] (at (own ++ b ∷ []) (all ++ b ∷ []) shown)) same
            (submit_one own all shown b longer (front_accepted accepted start (all ++ b ∷ []) (c ∷ first) made_now)),
        subst (λ (l : List (List ℕ)). IsRun accepted skipping fingerprint start (at (own ++ b ∷ []) (all ++ b ∷ []) shown) (map Submit (d ∷ more)) [] (Stopped l file))
            (append_assoc all (b ∷ []) (c ∷ first)) rest,
        refl,
      )

-- one event
one : (fingerprint : List ℕ) (start : State) (old new : Service) (published : List (Published State)) (event : Event) → IsStep accepted skipping fingerprint start old event published new
    → IsRun accepted skipping fingerprint start old (event ∷ []) published new
one fingerprint start old new published event step = (published, [], new, step, (refl, refl), sym (append-nil published))

pub submits : (L : Type 0) → IsSubmits L
submits L start old new journal grown own batches found has is named =
    let more = take found.count batches in
    let all : all_of new ≡ all_of old ++ more = ap all_of is.pending ∙ sym (append_assoc old.published old.pending more) in
    let shown : new.published ≡ old.published = ap (λ (b : Batches). b.published) is.pending in
    subst (λ (s : Service). LeadTo journal.name start (running journal.name own old) (map Submit more) [] s)
    (ap (λ (l : List (List ℕ)). Running (record { compaction = journal.name.compaction; own = own ++ more }) l old.published) (sym all)
    ∙ (ap (λ (l : List (List ℕ)). Running (record { compaction = journal.name.compaction; own = own ++ more }) (all_of new) l) (sym shown)
    ∙ ap (λ (n : JournalName). running n (own ++ more) new) (sym named)))
    (submit_all journal.name.fingerprint start journal.name.compaction more own (all_of old) old.published has (subst (λ (l : List (List ℕ)). IsSome (after accepted start l)) all is.made))

pub breaks : (L : Type 0) → BreaksSubmits L
breaks L start old journal own batches first file has bounded some begins made stood =
    submit_broken journal.name.fingerprint start journal.name.compaction batches first own (all_of old) old.published file has bounded some begins
    (subst (λ (l : List (List ℕ)). IsSome (after accepted start l)) (sym (append_assoc old.published old.pending first)) made) stood

pub retries : (L : Type 0) → IsRetry L
retries L start last old new journal own receipt has is (all, now) =
    let leads_there : after accepted (skipping (skipped_of journal.name.compaction) start) own ≡ Some last = has.same start last is in
    let shown : List (Published State) = record { batches = all_of old; state = last } ∷ [] in
    let same : running journal.name own (record { published = all_of old; pending = [] }) ≡ Running (record { compaction = journal.name.compaction; own = own }) (all_of old) (all_of old) =
    ap (λ (l : List (List ℕ)). Running (record { compaction = journal.name.compaction; own = own }) l (all_of old)) (append-nil (all_of old)) in
    let step : IsStep accepted skipping journal.name.fingerprint start (running journal.name own old) Retry shown (running journal.name own (record { published = all_of old; pending = [] })) =
    inl (subst (λ (o : Option State). IsSomeAnd o (λ state. shown ≡ record { batches = all_of old; state = state } ∷ [])) (sym leads_there) refl, same) in
    rw (now, all) (one journal.name.fingerprint start (running journal.name own old) (running journal.name own (record { published = all_of old; pending = [] })) shown Retry step)

pub compacts : {L : Type 0} (content : L → List ℕ) (may_leave : L → List ℕ → Type 0) → IsCheckpointOf content may_leave
compacts content may_leave start admin old new own (Some why) has settled (still, named) = (
  own,
  still,
  subst (λ (n : JournalName). HasBatches n own admin) (sym named) has,
  one old.name.fingerprint start (running old.name own admin) (running new.name own admin) [] Checkpoint (inl (refl, ap (λ (n : JournalName). running n own admin) named)),
)
compacts content may_leave start admin old new own None has settled is =
    let less : HasBatches new.name (compacted own) admin =
    subst (λ (n : JournalName). HasBatches n (compacted own) admin) (sym is.named) (shorter (skipped_of old.name.compaction) own (all_of admin) has) in
    let fewer : IsShorter accepted skipping old.name.fingerprint start (record { compaction = new.name.compaction; own = compacted own }) (record { compaction = old.name.compaction; own = own }) = record {
      bounded = is.bounded;
      whole = is.settled.enough;
      more = left_out own;
      counted = ap (λ (n : JournalName). skipped_of n.compaction) is.named;
      short = leads_to_the_same own;
    } in
    (compacted own, is.settled, less, one old.name.fingerprint start (running old.name own admin) (running new.name (compacted own) admin) [] Checkpoint (inr (inl (record { compaction = new.name.compaction; own = compacted own }, fewer, (refl, refl)))))

skip_none : (first last : State) (own : List (List ℕ)) → after accepted first own ≡ Some last → after accepted (skipping 0 first) own ≡ Some last
skip_none first last own is =
    subst (λ (n : ℕ). after accepted (record { map = first.map; sequence = n }) own ≡ Some last) (let e : first.sequence ≡ first.sequence + 0 = omega arith in e) is

pub stops : (L : Type 0) → StopsCheckpoint L
stops L start admin journal own file has bounded (inl stood) =
    let same : IsShorter accepted skipping journal.name.fingerprint start (record { compaction = journal.name.compaction; own = own }) (record { compaction = journal.name.compaction; own = own }) = record {
      bounded = bounded;
      whole = stood.whole;
      more = 0;
      counted = omega arith;
      short = record { counted = omega arith; same = λ first last is. skip_none first last own is };
    } in
    one journal.name.fingerprint start (running journal.name own admin) (Stopped (all_of admin) file) [] Checkpoint (inr (inr (record { compaction = journal.name.compaction; own = own }, file, same, inl (record { bounded = bounded; stands = stood }), (refl, refl))))
stops L start admin journal own file has bounded (inr (less, stood)) =
    one journal.name.fingerprint start (running journal.name own admin) (Stopped (all_of admin) file) [] Checkpoint (inr (inr (
      record { compaction = (compacted_name journal.name own).compaction; own = compacted own },
      file,
      record { bounded = less; whole = stood.whole; more = left_out own; counted = refl; short = leads_to_the_same own },
      inr (record { bounded = less; stands = stood }),
      (refl, refl),
    )))

pub crashes : {L : Type 0} (content : L → List ℕ) (may_leave : L → List ℕ → Type 0) → IsCrash content may_leave
crashes content may_leave start admin journal own file settled left =
    one journal.name.fingerprint start (running journal.name own admin) (Stopped (all_of admin) file) [] Crash (refl, ap (λ (f : List ℕ). Stopped (all_of admin) f) (settled.durable file left ∙ settled.file))

pub starts : {L : Type 0} (content : L → List ℕ) (may_leave : L → List ℕ → Type 0) → IsStart content may_leave
starts content may_leave start last name old new batches recovered bounded has = (
  has.batches,
  one name.fingerprint start (Stopped batches (content old)) (Running (record { compaction = name.compaction; own = has.batches }) batches batches) (record { batches = batches; state = last } ∷ []) Start (inl (
    record { compaction = name.compaction; own = has.batches },
    record { bounded = bounded; stands = has.stood tt },
    (
      subst (λ (o : Option State). IsSomeAnd o (λ state. ◌≡◌ {A = List (Published State)} (record { batches = batches; state = last } ∷ []) (record { batches = batches; state = state } ∷ []))) (sym has.after) refl,
      refl,
    ),
  )),
)
