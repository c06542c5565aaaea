-- Batches that were checked are accepted after those before them.
use Rattle.std.proofs.Common.{◌≡◌, ◌⊎◌, ◌<◌, inl, inr, ℕ, List, [], ◌∷◌, ◌++◌, Option, None, Some, IsSome, length, take, drop, refl, sym, ◌∙◌, ap, subst, append_assoc, take-append-drop, arith}
use Rattle.std.proofs.lemmas.List.{append-nil, length-drop, take-map}
use Rattle.std.specs.Prelude.{Vec, option_and_then}
use Rattle.std.specs.declared.alloc.Global.{Global}
use mathlib.Core.List.{IsPrefix}
use Rattle.batches.specs.Batch.{State, accepted}
use Rattle.batches.specs.declared.fault.BatchError.{BatchError}
use Rattle.batches.specs.declared.fault.BatchError.TheVariants as batch_error
use Rattle.batches.specs.declared.fault.BatchFault.{BatchFault}
use Rattle.journal.specs.Texts.{texts_of}
use Rattle.journal.proofs.Growing.{length-texts}
use Rattle.sharing.specs.Sharing.{after}
use Rattle.sharing.proofs.Accepting.{after_append, front_accepted}
use Rattle.mapshare.specs.Admin.{Batches, HasAccepted, IsAccepted, IsRefused, all_of, with_batch, with_batches}
use Rattle.mapshare.specs.Checking.{HasChecked, StopsAt}
use Rattle.mapshare.specs.declared.checking.Accepted.{Accepted}

-- the state after more batches
pub after_more : (opening first : State) (batches more : List (List ℕ)) → after accepted opening batches ≡ Some first → after accepted opening (batches ++ more) ≡ after accepted first more
after_more opening first batches more is = after_append accepted opening batches more ∙ ap (option_and_then (λ s. after accepted s more)) is

-- where more batches are pending
pub after_all : (opening first : State) (old : Batches) (more : List (List ℕ)) → after accepted opening (all_of old) ≡ Some first → after accepted opening (all_of (with_batches more old)) ≡ after accepted first more
after_all opening first old more is = ap (after accepted opening) (sym (append_assoc old.published old.pending more)) ∙ after_more opening first (all_of old) more is

-- none more
pub none_more : (old : Batches) (count : ℕ) (batches : List (List ℕ)) → count ≡ 0 → with_batches (take count batches) old ≡ old
none_more old count batches none =
    ap (λ (n : ℕ). with_batches (take n batches) old) none ∙ ap (λ (p : List (List ℕ)). record { published = old.published; pending = p }) (append-nil old.pending)

-- a stop by other faults
stops : (has other : List ℕ → BatchFault → Type 0) → ((batch : List ℕ) (fault : BatchFault) → has batch fault → other batch fault)
    → (batches : List (List ℕ)) (count : ℕ) (refused : Option BatchError) → StopsAt has batches count refused → StopsAt other batches count refused
stops has other gives batches count None is = is
stops has other gives batches count (Some (batch_error.Fault fault)) (batch, rest, split, is) = (batch, rest, split, gives batch fault is)
stops has other gives batches count (Some batch_error.NoMemory) is = is

is_some : (o : Option State) (state : State) → o ≡ Some state → IsSome o
is_some o state is = subst IsSome (sym is) refl

-- the batches that were checked are accepted
pub has_accepted : (opening first last : State) (old new : Batches) (batches : List (List ℕ)) (found : Accepted) → after accepted opening (all_of old) ≡ Some first → HasChecked first batches found last
    → new ≡ with_batches (take found.count batches) old → HasAccepted opening old batches found new
has_accepted opening first last old new batches found is checked pending =
    let leads : after accepted opening (all_of new) ≡ Some last = ap (λ (b : Batches). after accepted opening (all_of b)) pending ∙ after_all opening first old (take found.count batches) is ∙ checked.leads in
    record {
      within = checked.within;
      pending = pending;
      made = is_some (after accepted opening (all_of new)) last leads;
      stop = stops _ (IsRefused opening new) (λ batch fault refused. (last, leads, refused)) batches found.count found.refused checked.stop;
    }

-- one batch that is refused is none that is accepted
pub refused_one : (opening : State) (old new : Batches) (batch : Vec ℕ Global) (batches : List (Vec ℕ Global)) (found : Accepted) (fault : BatchFault) → batches ≡ batch ∷ []
    → HasAccepted opening old (texts_of batches) found new → found.refused ≡ Some (batch_error.Fault fault) → (found.count ≡ 0) × IsRefused opening old batch.items fault × (new ≡ old)
refused_one opening old new batch batches found fault one has refused =
    let stop = subst (λ (r : Option BatchError). StopsAt (IsRefused opening new) (texts_of batches) found.count r) refused has.stop in
    let none : found.count ≡ 0 = omega (arith, ap length stop.2, length-drop found.count (texts_of batches), length-texts batches, ap length one) in
    let same : new ≡ old = has.pending ∙ none_more old found.count (texts_of batches) none in
    let split : batch.items ∷ [] ≡ stop.0 ∷ stop.1 = ap texts_of (sym one) ∙ ap (λ (n : ℕ). drop n (texts_of batches)) (sym none) ∙ stop.2 in
    let is : stop.0 ≡ batch.items = cc (split) in
    (none, subst (λ (b : Batches). IsRefused opening b batch.items fault) same (subst (λ (l : List ℕ). IsRefused opening new l fault) is stop.3), same)

-- none is accepted, where memory is refused before
pub out_of_memory : (first : State) (batches : List (List ℕ)) → 0 < length batches → HasChecked first batches (record { count = 0; refused = Some batch_error.NoMemory }) first
out_of_memory first batches some = record { within = omega arith; leads = refl; stop = some }

-- the first of some texts
pub texts_first : (count : ℕ) (batches : List (Vec ℕ Global)) → texts_of (take count batches) ≡ take count (texts_of batches)
texts_first count batches = sym (take-map (λ (text : Vec ℕ Global). text.items) count batches)

-- all that were checked are accepted
pub all_accepted : (opening first last : State) (old : Batches) (batches : List (List ℕ)) (found : Accepted) → after accepted opening (all_of old) ≡ Some first → HasChecked first batches found last
    → IsAccepted opening (with_batches (take found.count batches) old)
all_accepted opening first last old batches found is checked =
    is_some (after accepted opening (all_of (with_batches (take found.count batches) old))) last (after_all opening first old (take found.count batches) is ∙ checked.leads)

-- and so are the first of them, which a crash leaves
pub crash_leaves : (opening first last : State) (old : Batches) (batches : List (Vec ℕ Global)) (found : Accepted) (kept : List (List ℕ)) (stands : List (List ℕ) → Type 0)
    → after accepted opening (all_of old) ≡ Some first → HasChecked first (texts_of batches) found last
    → (some : List (List ℕ)) × IsPrefix some (texts_of (take found.count batches)) × stands (kept ++ some)
    → (some : List (List ℕ)) × IsPrefix some (texts_of batches) × IsAccepted opening (with_batches some old) × stands (kept ++ some)
crash_leaves opening first last old batches found kept stands is checked (some, begins, stood) =
    let more = take found.count (texts_of batches) in
    let rest = drop found.count (texts_of batches) in
    let begun : some ++ begins.0 ≡ more = begins.1 ∙ texts_first found.count batches in (
      some,
      (begins.0 ++ rest, sym (append_assoc some begins.0 rest) ∙ ap (λ (l : List (List ℕ)). l ++ rest) begun ∙ take-append-drop found.count (texts_of batches)),
      subst IsSome (sym (after_all opening first old some is))
          (front_accepted accepted first some begins.0 (is_some (after accepted first (some ++ begins.0)) last (ap (after accepted first) begun ∙ checked.leads))),
      stood,
    )

-- where nothing was done, it leaves none of them
pub stays_first : (kept more : List (List ℕ)) (stands : List (List ℕ) → Type 0) → stands kept → (some : List (List ℕ)) × IsPrefix some more × stands (kept ++ some)
stays_first kept more stands stood = ([], (more, refl), subst stands (sym (append-nil kept)) stood)

-- of one batch it leaves none or this one
none_or_one : (opening : State) (old : Batches) (batch : List ℕ) (kept : List (List ℕ)) (stands : List (List ℕ) → Type 0)
    → (some : List (List ℕ)) × IsPrefix some (batch ∷ []) × IsAccepted opening (with_batches some old) × stands (kept ++ some)
    → stands kept ⊎ (IsAccepted opening (with_batch batch old) × stands (kept ++ batch ∷ []))
none_or_one opening old batch kept stands ([], begins, made, stood) = inl (subst stands (append-nil kept) stood)
none_or_one opening old batch kept stands (b ∷ [], begins, made, stood) =
    let same : b ≡ batch = cc (begins.1) in
    inr (subst (λ (l : List ℕ). IsAccepted opening (with_batch l old)) same made, subst (λ (l : List ℕ). stands (kept ++ l ∷ [])) same stood)
none_or_one opening old batch kept stands (a ∷ b ∷ some, begins, made, stood) = absurd (cc (begins.1))

pub crash_leaves_one : (opening : State) (old : Batches) (batch : Vec ℕ Global) (batches : List (Vec ℕ Global)) (kept : List (List ℕ)) (stands : List (List ℕ) → Type 0) → batches ≡ batch ∷ []
    → (some : List (List ℕ)) × IsPrefix some (texts_of batches) × IsAccepted opening (with_batches some old) × stands (kept ++ some)
    → stands kept ⊎ (IsAccepted opening (with_batch batch.items old) × stands (kept ++ batch.items ∷ []))
crash_leaves_one opening old batch batches kept stands one left =
    none_or_one opening old batch.items kept stands
    (subst (λ (l : List (Vec ℕ Global)). (some : List (List ℕ)) × IsPrefix some (texts_of l) × IsAccepted opening (with_batches some old) × stands (kept ++ some)) one left)
