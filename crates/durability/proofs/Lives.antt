-- The batches of a service, along its lives.
use Rattle.std.proofs.Common.{◌≡◌, inl, inr, ℕ, List, [], ◌∷◌, ◌++◌, length, All, None, Some, refl, sym, ◌∙◌, ap, subst, append_assoc, length-append, arith}
use Rattle.std.specs.Prelude.{Option, IsSome, IsSomeAnd}
use Rattle.std.specs.Option.{option_and_then}
use Rattle.std.proofs.lemmas.List.{append-nil}
use Rattle.std.proofs.lemmas.List.Elements.{All-nil, All-cons, All-append, All-head, All-tail}
use mathlib.Core.List.{IsPrefix}
use Rattle.sha2.specs.Sha256.{sha256}
use Rattle.journal.specs.Name.{journal_name, name_of, skipped_of}
use Rattle.journal.specs.Record.{header, journal_of}
use Rattle.journal.specs.Reading.{StandsFor}
use Rattle.journal.specs.declared.name.Compaction.{Compaction}
use Rattle.journal.proofs.Standing.{stands, one_journal as one_standing}
use Rattle.sharing.specs.Sharing.{after}
use Rattle.sharing.specs.Shortened.{IsShortOf}
use Rattle.sharing.proofs.Accepting.{after_append}
use Rattle.sharing.proofs.Shortened.{short_again, short_more, short_self}
use Rattle.durability.specs.Service.{Service, Event, Journal, Published, IsCheckpoint, IsFileOf, IsShorter, IsSubmitted, IsStarted, IsStep, IsRun, batches_of, state_of, with_batch}
use Rattle.durability.specs.Service.Service.{Running, Stopped}
use Rattle.durability.specs.Service.Event.{Submit, Retry, Checkpoint, Crash, Start}
use Rattle.durability.specs.Law.{submitted, IsSublist, IsJournalOf, IsOf, HasBatches, KeepsBatches, IsDurable, Skips}

sublist_more : (xs ys zs : List (List ℕ)) → IsSublist xs ys → IsSublist xs (ys ++ zs)
sublist_more xs [] [] is = is
sublist_more xs [] (z ∷ zs) is = inl (sublist_more xs [] zs is)
sublist_more xs (y ∷ ys) zs (inl later) = inl (sublist_more xs ys zs later)
sublist_more xs (y ∷ ys) zs (inr (rest, is, part)) = inr (rest, is, sublist_more rest ys zs part)

sublist_push : (xs ys : List (List ℕ)) (b : List ℕ) → IsSublist xs ys → IsSublist (xs ++ b ∷ []) (ys ++ b ∷ [])
sublist_push xs [] b is = inr ([], ap (λ (l : List (List ℕ)). l ++ b ∷ []) is, refl)
sublist_push xs (y ∷ ys) b (inl later) = inl (sublist_push xs ys b later)
sublist_push xs (y ∷ ys) b (inr (rest, is, part)) = inr (rest ++ b ∷ [], ap (λ (l : List (List ℕ)). l ++ b ∷ []) is, sublist_push rest ys b part)

prefix_self : (xs : List (List ℕ)) → IsPrefix xs xs
prefix_self xs = ([], append-nil xs)

some_is : {A : Type 0} (a b : A) → Some a ≡ Some b → a ≡ b
some_is a b h = cc

module _ {S : Type 0} (accepted : S → List ℕ → Option S) (skipping : ℕ → S → S) (fingerprint : List ℕ) (start : S) (skips : Skips skipping) (long : length fingerprint ≡ 32) where
  -- what was published stays so with more batches
  of_more : (published : Published S) (xs ys : List (List ℕ)) → IsOf accepted start xs published → IsOf accepted start (xs ++ ys) published
  of_more published xs ys of = record {
    first = (of.first.0 ++ ys, sym (append_assoc published.batches of.first.0 ys) ∙ ap (λ (l : List (List ℕ)). l ++ ys) of.first.1);
    state = of.state;
  }

  all_more : (published : List (Published S)) (xs ys : List (List ℕ)) → All (IsOf accepted start xs) published → All (IsOf accepted start (xs ++ ys)) published
  all_more [] xs ys all = All-nil (IsOf accepted start (xs ++ ys))
  all_more (p ∷ published) xs ys all =
      All-cons (IsOf accepted start (xs ++ ys)) p published (of_more p xs ys (All-head (IsOf accepted start xs) p published all)) (all_more published xs ys (All-tail (IsOf accepted start xs) p published all))

  -- a journal leads to the state that its batches lead to
  leads : (journal : Journal) (batches : List (List ℕ)) → IsJournalOf accepted skipping journal batches → IsSome (after accepted start batches)
      → state_of accepted skipping fingerprint start journal ≡ after accepted start batches
  leads journal batches is some = by (after accepted start batches) refl some
    where
      by : (o : Option S) → after accepted start batches ≡ o → IsSome o → state_of accepted skipping fingerprint start journal ≡ after accepted start batches
      by None e h = absurd (cc)
      by (Some state) e h = is.short.same start state e ∙ sym e

  -- so it does with a batch more
  leads_more : (journal : Journal) (batches : List (List ℕ)) (batch : List ℕ) → IsJournalOf accepted skipping journal batches → IsSome (after accepted start batches)
      → state_of accepted skipping fingerprint start (with_batch journal batch) ≡ after accepted start (batches ++ batch ∷ [])
  leads_more journal batches batch is some =
      after_append accepted (skipping (skipped_of journal.compaction) start) journal.own (batch ∷ [])
      ∙ ap (option_and_then (λ state. after accepted state (batch ∷ []))) (leads journal batches is some)
      ∙ sym (after_append accepted start batches (batch ∷ []))

  with_more : (journal : Journal) (batches : List (List ℕ)) (batch : List ℕ) → IsJournalOf accepted skipping journal batches
      → IsJournalOf accepted skipping (with_batch journal batch) (batches ++ batch ∷ [])
  with_more journal batches batch is = record {
    bounded = is.bounded;
    whole = omega (arith, is.whole, length-append journal.own (batch ∷ []));
    short = short_more accepted skipping (skipped_of journal.compaction) journal.own batches (batch ∷ []) is.short;
  }

  -- a file stands for one journal
  pub one_journal : (a b : Journal) (file : List ℕ) → IsFileOf fingerprint a file → IsFileOf fingerprint b file → a ≡ b
  one_journal a b file is_a is_b =
      let same = one_standing fingerprint a.compaction b.compaction file a.own b.own long is_a.bounded is_b.bounded is_a.stands is_b.stands in
      ap (λ (c : Option Compaction). record { compaction = c; own = a.own }) same.0 ∙ ap (λ (l : List (List ℕ)). record { compaction = b.compaction; own = l }) same.1

  abbrev Keeps : Service → List (Published S) → List (List ℕ) → Type 0
  Keeps service published given = KeepsBatches accepted skipping fingerprint start service published given

  abbrev Has : Service → Type 0
  Has service = HasBatches accepted skipping fingerprint service

  -- the service has the same batches, and publishes only what is of them
  same : (service new : Service) (published now : List (Published S)) (given more : List (List ℕ)) → Keeps service published given → batches_of new ≡ batches_of service
      → All (IsOf accepted start (batches_of service)) now → Has new → Keeps new (published ++ now) (given ++ more)
  same service new published now given more k is all has = record {
    has = has;
    begins = subst (λ (l : List (List ℕ)). All (IsOf accepted start l) (published ++ now)) (sym is) (All-append (IsOf accepted start (batches_of service)) published now k.begins all);
    state = subst (λ (l : List (List ℕ)). IsSome (after accepted start l)) (sym is) k.state;
    part = subst (λ (l : List (List ℕ)). IsSublist l (given ++ more)) (sym is) (sublist_more (batches_of service) given more k.part);
  }

  -- the service has one more batch
  grown : (service new : Service) (published now : List (Published S)) (given : List (List ℕ)) (b : List ℕ) → Keeps service published given → batches_of new ≡ batches_of service ++ b ∷ []
      → IsSome (after accepted start (batches_of service ++ b ∷ [])) → All (IsOf accepted start (batches_of service ++ b ∷ [])) now → Has new → Keeps new (published ++ now) (given ++ b ∷ [])
  grown service new published now given b k is some all has = record {
    has = has;
    begins =
        let both = All-append (IsOf accepted start (batches_of service ++ b ∷ [])) published now (all_more published (batches_of service) (b ∷ []) k.begins) all in
        subst (λ (l : List (List ℕ)). All (IsOf accepted start l) (published ++ now)) (sym is) both;
    state = subst (λ (l : List (List ℕ)). IsSome (after accepted start l)) (sym is) some;
    part = subst (λ (l : List (List ℕ)). IsSublist l (given ++ b ∷ [])) (sym is) (sublist_push (batches_of service) given b k.part);
  }

  nothing : (xs : List (List ℕ)) (now : List (Published S)) → now ≡ [] → All (IsOf accepted start xs) now
  nothing xs now none = subst (All (IsOf accepted start xs)) (sym none) (All-nil (IsOf accepted start xs))

  -- what is published is the state after all batches
  just : (journal : Journal) (batches : List (List ℕ)) (now : List (Published S)) → state_of accepted skipping fingerprint start journal ≡ after accepted start batches
      → IsSomeAnd (state_of accepted skipping fingerprint start journal) (λ state. now ≡ record { batches = batches; state = state } ∷ []) → All (IsOf accepted start batches) now
  just journal batches now is shown = by (state_of accepted skipping fingerprint start journal) refl shown
    where
      by : (o : Option S) → state_of accepted skipping fingerprint start journal ≡ o → IsSomeAnd o (λ state. now ≡ record { batches = batches; state = state } ∷ []) → All (IsOf accepted start batches) now
      by None e h = absurd h
      by (Some state) e h =
          let one : IsOf accepted start batches (record { batches = batches; state = state }) = record { first = prefix_self batches; state = sym is ∙ e } in
          subst (All (IsOf accepted start batches)) (sym h)
          (All-cons (IsOf accepted start batches) (record { batches = batches; state = state }) [] one (All-nil (IsOf accepted start batches)))

  becomes : (new other : Service) → new ≡ other → Has other → Has new
  becomes new other is has = subst Has (sym is) has

  module _ (journal : Journal) (batches shown : List (List ℕ)) (published : List (Published S)) (given : List (List ℕ)) (k : Keeps (Running journal batches shown) published given) where
    abbrev old : Service
    old = Running journal batches shown

    abbrev longer : List ℕ → Journal
    longer b = with_batch journal b

    leads_longer : (b : List ℕ) → state_of accepted skipping fingerprint start (longer b) ≡ after accepted start (batches ++ b ∷ [])
    leads_longer b = leads_more journal batches b k.has k.state

    is_accepted : (b : List ℕ) → IsSome (state_of accepted skipping fingerprint start (longer b)) → IsSome (after accepted start (batches ++ b ∷ []))
    is_accepted b some = subst IsSome (leads_longer b) some

    submits : (b : List ℕ) (now : List (Published S)) (new : Service) → IsSubmitted accepted skipping fingerprint start journal batches shown b now new → Keeps new (published ++ now) (given ++ b ∷ [])
    submits b now new (inl (none, is)) =
        same old new published now given (b ∷ []) k (ap batches_of is) (nothing batches now none) (becomes new old is k.has)
    submits b now new (inr (inl (some, inl (shows, is)))) =
        grown old new published now given b k (ap batches_of is) (is_accepted b some) (just (longer b) (batches ++ b ∷ []) now (leads_longer b) shows)
        (becomes new (Running (longer b) (batches ++ b ∷ []) (batches ++ b ∷ [])) is (with_more journal batches b k.has))
    submits b now new (inr (inl (some, inr (none, is)))) =
        grown old new published now given b k (ap batches_of is) (is_accepted b some) (nothing (batches ++ b ∷ []) now none)
        (becomes new (Running (longer b) (batches ++ b ∷ []) shown) is (with_more journal batches b k.has))
    submits b now new (inr (inr (file, inl (left, (none, is))))) =
        same old new published now given (b ∷ []) k (ap batches_of is) (nothing batches now none) (becomes new (Stopped batches file) is (journal, left, k.has))
    submits b now new (inr (inr (file, inr (some, left, (none, is))))) =
        grown old new published now given b k (ap batches_of is) (is_accepted b some) (nothing (batches ++ b ∷ []) now none)
        (becomes new (Stopped (batches ++ b ∷ []) file) is (longer b, left, with_more journal batches b k.has))

    retries : (now : List (Published S)) (new : Service) → IsStep accepted skipping fingerprint start old Retry now new → Keeps new (published ++ now) (given ++ [])
    retries now new (inl (shows, is)) =
        same old new published now given [] k (ap batches_of is) (just journal batches now (leads journal batches k.has k.state) shows) (becomes new (Running journal batches batches) is k.has)
    retries now new (inr (none, is)) =
        same old new published now given [] k (ap batches_of is) (nothing batches now none) (becomes new old is k.has)

    -- a shorter journal has the same batches
    shortened : (other : Journal) → IsShorter accepted skipping fingerprint start other journal → IsJournalOf accepted skipping other batches
    shortened other is = record {
      bounded = is.bounded;
      whole = is.whole;
      short = subst (λ (n : ℕ). IsShortOf accepted skipping n other.own batches) (sym is.counted)
          (short_again accepted skipping (skipped_of journal.compaction) is.more other.own journal.own batches (skips.more (skipped_of journal.compaction) is.more) k.has.short is.short);
    }

    compacts : (now : List (Published S)) (new : Service) → IsCheckpoint accepted skipping fingerprint start journal batches shown now new → Keeps new (published ++ now) (given ++ [])
    compacts now new (inl (none, is)) =
        same old new published now given [] k (ap batches_of is) (nothing batches now none) (becomes new old is k.has)
    compacts now new (inr (inl (other, short, (none, is)))) =
        same old new published now given [] k (ap batches_of is) (nothing batches now none) (becomes new (Running other batches shown) is (shortened other short))
    compacts now new (inr (inr (other, file, short, inl left, (none, is)))) =
        same old new published now given [] k (ap batches_of is) (nothing batches now none) (becomes new (Stopped batches file) is (journal, left, k.has))
    compacts now new (inr (inr (other, file, short, inr left, (none, is)))) =
        same old new published now given [] k (ap batches_of is) (nothing batches now none) (becomes new (Stopped batches file) is (other, left, shortened other short))

    crashes : (now : List (Published S)) (new : Service) → IsStep accepted skipping fingerprint start old Crash now new → Keeps new (published ++ now) (given ++ [])
    crashes now new (none, is) =
        let file = journal_of sha256 (name_of fingerprint journal.compaction) journal.own in
        same old new published now given [] k (ap batches_of is) (nothing batches now none)
        (becomes new (Stopped batches file) is (journal, record { bounded = k.has.bounded; stands = stands (journal_name fingerprint journal.compaction) journal.own k.has.whole }, k.has))

  module _ (batches : List (List ℕ)) (file : List ℕ) (published : List (Published S)) (given : List (List ℕ)) (k : Keeps (Stopped batches file) published given) where
    abbrev was : Service
    was = Stopped batches file

    -- the journal that is read is the one that was left
    is_left : (journal : Journal) → IsFileOf fingerprint journal file → IsJournalOf accepted skipping journal batches
    is_left journal read = subst (λ (j : Journal). IsJournalOf accepted skipping j batches) (one_journal k.has.0 journal file k.has.1 read) k.has.2

    starts : (now : List (Published S)) (new : Service) → IsStarted accepted skipping fingerprint start batches file now new → Keeps new (published ++ now) (given ++ [])
    starts now new (inl (journal, read, (shows, is))) =
        let has = is_left journal read in
        same was new published now given [] k (ap batches_of is) (just journal batches now (leads journal batches has k.state) shows) (becomes new (Running journal batches batches) is has)
    starts now new (inr (other, inl alike, (none, is))) =
        same was new published now given [] k (ap batches_of is) (nothing batches now none)
        (becomes new (Stopped batches other) is (subst (λ (f : List ℕ). Has (Stopped batches f)) (sym alike) k.has))
    starts now new (inr (other, inr (journal, here, there), (none, is))) =
        same was new published now given [] k (ap batches_of is) (nothing batches now none) (becomes new (Stopped batches other) is (journal, there, is_left journal here))

    stays : (more : List (List ℕ)) (now : List (Published S)) (new : Service) → now ≡ [] → new ≡ was → Keeps new (published ++ now) (given ++ more)
    stays more now new none is = same was new published now given more k (ap batches_of is) (nothing batches now none) (becomes new was is k.has)

  step_keeps : (service : Service) (event : Event) (published now : List (Published S)) (given : List (List ℕ)) (new : Service) → Keeps service published given
      → IsStep accepted skipping fingerprint start service event now new → Keeps new (published ++ now) (given ++ submitted (event ∷ []))
  step_keeps (Running journal batches shown) (Submit b) published now given new k step = submits journal batches shown published given k b now new step
  step_keeps (Running journal batches shown) Retry published now given new k step = retries journal batches shown published given k now new step
  step_keeps (Running journal batches shown) Checkpoint published now given new k step = compacts journal batches shown published given k now new step
  step_keeps (Running journal batches shown) Crash published now given new k step = crashes journal batches shown published given k now new step
  step_keeps (Running journal batches shown) Start published now given new k (none, is) =
      same (Running journal batches shown) new published now given [] k (ap batches_of is) (nothing batches now none) (becomes new (Running journal batches shown) is k.has)
  step_keeps (Stopped batches file) Start published now given new k step = starts batches file published given k now new step
  step_keeps (Stopped batches file) (Submit b) published now given new k (none, is) = stays batches file published given k (b ∷ []) now new none is
  step_keeps (Stopped batches file) Retry published now given new k (none, is) = stays batches file published given k [] now new none is
  step_keeps (Stopped batches file) Checkpoint published now given new k (none, is) = stays batches file published given k [] now new none is
  step_keeps (Stopped batches file) Crash published now given new k (none, is) = stays batches file published given k [] now new none is

  submitted_on : (event : Event) (events : List Event) → submitted (event ∷ []) ++ submitted events ≡ submitted (event ∷ events)
  submitted_on (Submit b) events = refl
  submitted_on Retry events = refl
  submitted_on Checkpoint events = refl
  submitted_on Crash events = refl
  submitted_on Start events = refl

  run_keeps : (events : List Event) (service : Service) (published later : List (Published S)) (given : List (List ℕ)) (new : Service) → Keeps service published given
      → IsRun accepted skipping fingerprint start service events later new → Keeps new (published ++ later) (given ++ submitted events)
  run_keeps [] service published later given new k (none, is) =
      same service new published later given [] k (ap batches_of is) (nothing (batches_of service) later none) (becomes new service is k.has)
  run_keeps (event ∷ events) service published all given new k (now, later, mid, step, run, is) =
      let rest = run_keeps events mid (published ++ now) later (given ++ submitted (event ∷ [])) new (step_keeps service event published now given mid k step) run in
      subst (λ (l : List (Published S)). Keeps new l (given ++ submitted (event ∷ events))) (append_assoc published now later ∙ ap (λ (l : List (Published S)). published ++ l) (sym is))
      (subst (Keeps new (published ++ now ++ later)) (append_assoc given (submitted (event ∷ [])) (submitted events) ∙ ap (λ (l : List (List ℕ)). given ++ l) (submitted_on event events)) rest)

  -- an empty journal
  abbrev empty : Journal
  empty = record { compaction = None; own = [] }

  first : Keeps (Stopped [] (header sha256 fingerprint)) [] []
  first = record {
    has = (
      empty,
      record {
        bounded = (omega arith, omega arith);
        stands =
            let name = journal_name fingerprint None in
            subst (λ (f : List ℕ). StandsFor name f []) (append-nil (header sha256 fingerprint)) (stands name [] (omega arith));
      },
      record { bounded = (omega arith, omega arith); whole = omega arith; short = short_self accepted skipping [] skips.none },
    );
    begins = All-nil (IsOf accepted start []);
    state = refl;
    part = refl;
  }

  pub durable : IsDurable accepted skipping fingerprint start
  durable events published new run = run_keeps events (Stopped [] (header sha256 fingerprint)) [] published [] new first run
