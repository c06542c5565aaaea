-- What is left of accepted batches is accepted, and leads to the same map.
use Rattle.std.proofs.Common.{◌≡◌, inl, inr, ◌∙◌, ◌==◌, ◌^◌, ℕ, zero, suc, ◌+◌, ◌-◌, ◌<◌, ◌≤◌, Bool, true, false, if◌then◌else◌, List, [], ◌∷◌, ◌++◌, length, Option, None, Some, Result, Ok, Err, nat_lt, refl, sym, ap, subst, arith}
use Rattle.std.proofs.lemmas.Bool.Decides.{nat_tests}
use Rattle.std.specs.Option.{option_and_then}
use Rattle.std.specs.Result.{result_ok}
use Rattle.mapdefs.specs.declared.layer.LayerFields.{LayerFields}
use Rattle.mapdefs.specs.declared.map.MapFields.{MapFields}
use Rattle.batches.specs.Batch.{State, accepted, applied, at_command, batch, batched, unread}
use Rattle.mapdefs.specs.Outcome.{and_then}
use Rattle.batches.specs.Batch as batch_of
use Rattle.batches.specs.Command.{Reading, reading_of}
use Rattle.batches.specs.declared.command.Command.{Command}
use Rattle.batches.specs.declared.command.CommandFault.{CommandFault}
use Rattle.batches.specs.declared.fault.BatchFault.{BatchFault}
use Rattle.batches.specs.declared.fault.BatchKind.{BatchKind}
use Rattle.batches.specs.declared.fault.BatchKind.TheVariants.{TooLong, SequenceEnd}
use Rattle.batches.specs.declared.fault.TheConstants.{MAX_BATCH}
use Rattle.sharing.specs.Sharing.{after}
use Rattle.compaction.specs.Compacted.{commands_in, commands_of, compacted, compacted_batch, skipping, with_batch}
use Rattle.compaction.specs.Law.{LeadToTheSame}
use Rattle.compaction.proofs.Acting.{Acts, act, acts_or_fails}
use Rattle.compaction.proofs.Dropping.{left_leads, runs}
use Rattle.compaction.proofs.Reading.{batch_reads, commands_left, left_before-none, not_longer}

-- commands that can all be applied lead to these layers
pub record Ran (cs : List Command) (m n : MapFields) : Type 0 where
  pub layers : List LayerFields
  pub ran : runs cs m.layers ≡ Some layers
  pub is : n ≡ record m { layers = layers }

ran_next : (c : Command) (cs : List Command) (m n : MapFields) (i : ℕ) → ((k : MapFields) → batch_of.after (i + 1) cs k ≡ Ok n → Ran cs k n) → Acts c m
    → batch_of.after i (c ∷ cs) m ≡ Ok n → Ran (c ∷ cs) m n
ran_next c cs m n i others (inr fault) h =
    let clash : ◌≡◌ {A = Result MapFields BatchFault} (Err (record { index = i; kind = fault.kind })) (Ok n) =
    sym (ap (λ (r : Result MapFields BatchKind). and_then (at_command i r) (batch_of.after (i + 1) cs)) fault.refused) ∙ h in
    absurd (cc)
ran_next c cs m n i others (inl (layers, applies)) h =
    let more : batch_of.after (i + 1) cs (record m { layers = layers }) ≡ Ok n =
    sym (ap (λ (r : Result MapFields BatchKind). and_then (at_command i r) (batch_of.after (i + 1) cs)) applies.done) ∙ h in
    let rest = others (record m { layers = layers }) more in
    record { layers = rest.layers; ran = ap (option_and_then (runs cs)) applies.acted ∙ rest.ran; is = rest.is }

after_ran : (cs : List Command) (m n : MapFields) (i : ℕ) → batch_of.after i cs m ≡ Ok n → Ran cs m n
after_ran [] m n i h = let is : m ≡ n = cc in record { layers = m.layers; ran = refl; is = sym is }
after_ran (c ∷ cs) m n i h = ran_next c cs m n i (λ k. after_ran cs k n (i + 1)) (acts_or_fails c m) h

after_next : (c : Command) (cs : List Command) (m : MapFields) (last : List LayerFields) (i : ℕ)
    → ((k : MapFields) → runs cs k.layers ≡ Some last → batch_of.after (i + 1) cs k ≡ Ok (record k { layers = last })) → Acts c m
    → runs (c ∷ cs) m.layers ≡ Some last → batch_of.after i (c ∷ cs) m ≡ Ok (record m { layers = last })
after_next c cs m last i others (inr fault) h =
    let clash : None ≡ Some last = sym (ap (option_and_then (runs cs)) fault.acted) ∙ h in absurd (cc)
after_next c cs m last i others (inl (layers, applies)) h =
    ap (λ (r : Result MapFields BatchKind). and_then (at_command i r) (batch_of.after (i + 1) cs)) applies.done
    ∙ others (record m { layers = layers }) (sym (ap (option_and_then (runs cs)) applies.acted) ∙ h)

ran_after : (cs : List Command) (m : MapFields) (last : List LayerFields) (i : ℕ) → runs cs m.layers ≡ Some last → batch_of.after i cs m ≡ Ok (record m { layers = last })
ran_after [] m last i h = let is : m.layers ≡ last = cc in ap (λ (ls : List LayerFields). Ok (record m { layers = ls })) is
ran_after (c ∷ cs) m last i h = after_next c cs m last i (λ k. ran_after cs k last (i + 1)) (acts_or_fails c m) h

-- a batch that isn't too long and can be read whole
pub record Fits (bytes : List ℕ) : Type 0 where
  pub short : nat_lt MAX_BATCH (length bytes) ≡ false
  pub read : (reading_of bytes).wrong ≡ None

-- a further batch can be counted
abbrev pub is_end : ℕ → Bool
is_end sequence = sequence == 2 ^ 64 - 1

-- the state with other layers, one batch later
abbrev pub next_state : State → ℕ → List LayerFields → State
next_state s n layers = record { map = record s.map { layers = layers }; sequence = s.sequence + n }

pub record IsAccepted (s : State) (bytes : List ℕ) (t : State) : Type 0 where
  pub fits : Fits bytes
  pub free : is_end s.sequence ≡ false
  pub layers : List LayerFields
  pub ran : runs (commands_in bytes) s.map.layers ≡ Some layers
  pub is : t ≡ next_state s 1 layers

some_state : (a b : State) → Some a ≡ Some b → a ≡ b
some_state a b h = cc

module _ (s t : State) (bytes : List ℕ) where
  abbrev r : Reading
  r = reading_of bytes

  abbrev with_end : Result MapFields BatchFault → Result State BatchFault
  with_end done = and_then done (λ m. Ok (record { map = m; sequence = s.sequence + 1 }))

  accept_read : nat_lt MAX_BATCH (length bytes) ≡ false → is_end s.sequence ≡ false → (d : Result MapFields BatchFault) → batch_of.after 1 r.commands s.map ≡ d
      → (w : Option CommandFault) → r.wrong ≡ w → result_ok (with_end (and_then d (unread (1 + length r.commands) w))) ≡ Some t → IsAccepted s bytes t
  accept_read short free (Err fault) e w f h = absurd (cc)
  accept_read short free (Ok m) e (Some fault) f h = absurd (cc)
  accept_read short free (Ok m) e None f h =
      let all = after_ran r.commands s.map m 1 e in
      let last : record { map = m; sequence = s.sequence + 1 } ≡ t = some_state (record { map = m; sequence = s.sequence + 1 }) t h in
      record {
        fits = record { short = short; read = f };
        free = free;
        layers = all.layers;
        ran = all.ran;
        is = sym last ∙ ap (λ (n : MapFields). record { map = n; sequence = s.sequence + 1 }) all.is;
      }

  accept_free : nat_lt MAX_BATCH (length bytes) ≡ false → (e : Bool) → is_end s.sequence ≡ e
      → result_ok (if e then Err (record { index = 0; kind = SequenceEnd }) else with_end (batch bytes s.map)) ≡ Some t → IsAccepted s bytes t
  accept_free short true e h = absurd (cc)
  accept_free short false e h = accept_read short e (batch_of.after 1 r.commands s.map) refl r.wrong refl h

  accept_short : (l : Bool) → nat_lt MAX_BATCH (length bytes) ≡ l
      → result_ok (if l then Err (record { index = 0; kind = TooLong }) else if is_end s.sequence then Err (record { index = 0; kind = SequenceEnd }) else with_end (batch bytes s.map)) ≡ Some t
      → IsAccepted s bytes t
  accept_short true e h = absurd (cc)
  accept_short false e h = accept_free e (is_end s.sequence) refl h

  pub is_accepted : accepted s bytes ≡ Some t → IsAccepted s bytes t
  is_accepted h = accept_short (nat_lt MAX_BATCH (length bytes)) refl h

-- and the other way round
pub accepts : (s : State) (bytes : List ℕ) (layers : List LayerFields) → Fits bytes → is_end s.sequence ≡ false → runs (commands_in bytes) s.map.layers ≡ Some layers
    → accepted s bytes ≡ Some (next_state s 1 layers)
accepts s bytes layers fits free ran =
    let r = reading_of bytes in
    ap (λ (l : Bool). result_ok (if l then Err (record { index = 0; kind = TooLong }) else if is_end s.sequence then Err (record { index = 0; kind = SequenceEnd }) else and_then (batch bytes s.map) (λ m. Ok (record { map = m; sequence = s.sequence + 1 })))) fits.short
    ∙ ap (λ (e : Bool). result_ok (if e then Err (record { index = 0; kind = SequenceEnd }) else and_then (batch bytes s.map) (λ m. Ok (record { map = m; sequence = s.sequence + 1 })))) free
    ∙ ap (λ (d : Result MapFields BatchFault). result_ok (and_then (and_then d (unread (1 + length r.commands) r.wrong)) (λ m. Ok (record { map = m; sequence = s.sequence + 1 })))) (ran_after r.commands s.map layers 1 ran)
    ∙ ap (λ (w : Option CommandFault). result_ok (and_then (unread (1 + length r.commands) w (record s.map { layers = layers })) (λ m. Ok (record { map = m; sequence = s.sequence + 1 })))) fits.read

-- all batches fit
abbrev pub AllFit : List (List ℕ) → Type 0
AllFit [] = Unit {0}
AllFit (b ∷ bs) = Fits b × AllFit bs

runs-append : (a b : List Command) (layers : List LayerFields) → runs (a ++ b) layers ≡ option_and_then (runs b) (runs a layers)
runs-append [] b layers = refl
runs-append (c ∷ a) b layers = go (act c layers) (runs-append a b)
  where
    go : (o : Option (List LayerFields)) → ((ls : List LayerFields) → runs (a ++ b) ls ≡ option_and_then (runs b) (runs a ls))
        → option_and_then (runs (a ++ b)) o ≡ option_and_then (runs b) (option_and_then (runs a) o)
    go None others = refl
    go (Some ls) others = others ls

pub record AreAccepted (s : State) (bs : List (List ℕ)) (t : State) : Type 0 where
  pub fit : AllFit bs
  pub free : (i : ℕ) → i < length bs → is_end (s.sequence + i) ≡ false
  pub layers : List LayerFields
  pub ran : runs (commands_of bs) s.map.layers ≡ Some layers
  pub is : t ≡ next_state s (length bs) layers

one_more : (s : ℕ) (b : ℕ) → (s + 1) + b ≡ s + suc b
one_more s b = omega arith

no_more : (s : ℕ) → s + 0 ≡ s
no_more s = omega arith

are_next : (b : List ℕ) (bs : List (List ℕ)) (s mid t : State) → IsAccepted s b mid → AreAccepted mid bs t → AreAccepted s (b ∷ bs) t
are_next b bs s mid t one all = record {
  fit = (one.fits, all.fit);
  free = frees;
  layers = all.layers;
  ran =
      runs-append (commands_in b) (commands_of bs) s.map.layers ∙ ap (option_and_then (runs (commands_of bs))) one.ran
      ∙ subst (λ (m : State). runs (commands_of bs) m.map.layers ≡ Some all.layers) one.is all.ran;
  is =
      all.is ∙ ap (λ (m : State). next_state m (length bs) all.layers) one.is
      ∙ ap (λ (n : ℕ). record { map = record s.map { layers = all.layers }; sequence = n }) (one_more s.sequence (length bs));
}
  where
    after_one : mid.sequence ≡ s.sequence + 1
    after_one = ap (λ (m : State). m.sequence) one.is

    frees : (i : ℕ) → i < suc (length bs) → is_end (s.sequence + i) ≡ false
    frees zero h = subst (λ (n : ℕ). is_end n ≡ false) (sym (no_more s.sequence)) one.free
    frees (suc i) h =
        let later : mid.sequence + i ≡ s.sequence + suc i = omega (arith, after_one) in
        subst (λ (n : ℕ). is_end n ≡ false) later (all.free i (omega arith))

are_next_of : (b : List ℕ) (bs : List (List ℕ)) (s t : State) → ((mid : State) → after accepted mid bs ≡ Some t → AreAccepted mid bs t)
    → (o : Option State) → accepted s b ≡ o → option_and_then (λ m. after accepted m bs) o ≡ Some t → AreAccepted s (b ∷ bs) t
are_next_of b bs s t others None e h = absurd (cc)
are_next_of b bs s t others (Some mid) e h = are_next b bs s mid t (is_accepted s mid b e) (others mid h)

pub are_accepted : (bs : List (List ℕ)) (s t : State) → after accepted s bs ≡ Some t → AreAccepted s bs t
are_accepted [] s t h = record {
  fit = tt;
  free = λ i short. absurd (omega arith);
  layers = s.map.layers;
  ran = refl;
  is =
      let is : s ≡ t = cc in
      sym is ∙ ap (λ (n : ℕ). record { map = s.map; sequence = n }) (sym (no_more s.sequence));
}
are_accepted (b ∷ bs) s t h = are_next_of b bs s t (λ mid. are_accepted bs mid t) (accepted s b) refl h

all_next : (b : List ℕ) (bs : List (List ℕ)) (s : State) (last : List LayerFields)
    → ((mid : State) → ((i : ℕ) → i < length bs → is_end (mid.sequence + i) ≡ false) → runs (commands_of bs) mid.map.layers ≡ Some last → after accepted mid bs ≡ Some (next_state mid (length bs) last))
    → Fits b → ((i : ℕ) → i < suc (length bs) → is_end (s.sequence + i) ≡ false)
    → (o : Option (List LayerFields)) → runs (commands_in b) s.map.layers ≡ o → option_and_then (runs (commands_of bs)) o ≡ Some last
    → after accepted s (b ∷ bs) ≡ Some (next_state s (suc (length bs)) last)
all_next b bs s last others fits free None e h = absurd (cc)
all_next b bs s last others fits free (Some layers) e h =
    let first_free : is_end s.sequence ≡ false = subst (λ (n : ℕ). is_end n ≡ false) (no_more s.sequence) (free 0 (omega arith)) in
    ap (option_and_then (λ m. after accepted m bs)) (accepts s b layers fits first_free e)
    ∙ others (next_state s 1 layers) frees h
    ∙ ap (λ (n : ℕ). Some (record { map = record s.map { layers = last }; sequence = n })) (one_more s.sequence (length bs))
  where
    frees : (i : ℕ) → i < length bs → is_end ((s.sequence + 1) + i) ≡ false
    frees i short = subst (λ (n : ℕ). is_end n ≡ false) (sym (one_more s.sequence i)) (free (suc i) (omega arith))

pub all_accepted : (bs : List (List ℕ)) (s : State) (last : List LayerFields) → AllFit bs → ((i : ℕ) → i < length bs → is_end (s.sequence + i) ≡ false)
    → runs (commands_of bs) s.map.layers ≡ Some last → after accepted s bs ≡ Some (next_state s (length bs) last)
all_accepted [] s last fit free h =
    let is : s.map.layers ≡ last = cc in
    ap (λ (n : ℕ). Some (record { map = s.map; sequence = n })) (sym (no_more s.sequence))
    ∙ ap (λ (ls : List LayerFields). Some (next_state s 0 ls)) is
all_accepted (b ∷ bs) s last (fits, fit) free h =
    all_next b bs s last (λ mid. all_accepted bs mid last fit) fits free (runs (commands_in b) s.map.layers) refl (sym (runs-append (commands_in b) (commands_of bs) s.map.layers) ∙ h)

-- what is left fits, too
with_batch-fits : (b : List ℕ) (bs : List (List ℕ)) → Fits b → AllFit bs → AllFit (with_batch b bs)
with_batch-fits [] bs fits fit = fit
with_batch-fits (x ∷ b) bs fits fit = (fits, fit)

left_fits : (bytes : List ℕ) (later : List Command) → Fits bytes → Fits (compacted_batch bytes later)
left_fits bytes later fits = record {
  short = grind (arith, nat_tests, fits.short, not_longer bytes later);
  read = ap (λ (r : Reading). r.wrong) (batch_reads bytes later);
}

all_left_fit : (bs : List (List ℕ)) → AllFit bs → AllFit (compacted bs)
all_left_fit [] fit = tt
all_left_fit (b ∷ bs) (fits, fit) = with_batch-fits (compacted_batch b (commands_of bs)) (compacted bs) (left_fits b (commands_of bs) fits) (all_left_fit bs fit)

with_batch-count : (b : List ℕ) (bs : List (List ℕ)) → length (with_batch b bs) ≤ suc (length bs)
with_batch-count [] bs = omega arith
with_batch-count (x ∷ b) bs = omega arith

pub not_more : (bs : List (List ℕ)) → length (compacted bs) ≤ length bs
not_more [] = omega arith
not_more (b ∷ bs) = omega (arith, not_more bs, with_batch-count (compacted_batch b (commands_of bs)) (compacted bs))

pub leads_to_the_same : LeadToTheSame
leads_to_the_same bs = record {
  counted = omega (arith, not_more bs);
  same = λ first last h. go first last (are_accepted bs first last h);
}
  where
    skipped : ℕ
    skipped = length bs - length (compacted bs)

    counted : skipped + length (compacted bs) ≡ length bs
    counted = omega (arith, not_more bs)

    go : (first last : State) → AreAccepted first bs last → after accepted (skipping skipped first) (compacted bs) ≡ Some last
    go first last all =
        let ran : runs (commands_of (compacted bs)) first.map.layers ≡ Some all.layers =
        ap (λ (cs : List Command). runs cs first.map.layers) (commands_left bs ∙ left_before-none (commands_of bs)) ∙ left_leads (commands_of bs) first.map.layers all.layers all.ran in
        all_accepted (compacted bs) (skipping skipped first) all.layers (all_left_fit bs all.fit) frees ran
        ∙ ap (λ (n : ℕ). Some (record { map = record first.map { layers = all.layers }; sequence = n })) total
        ∙ ap (λ (s : State). Some s) (sym all.is)
      where
        frees : (i : ℕ) → i < length (compacted bs) → is_end ((first.sequence + skipped) + i) ≡ false
        frees i short =
            let later : first.sequence + (skipped + i) ≡ (first.sequence + skipped) + i = omega arith in
            subst (λ (n : ℕ). is_end n ≡ false) later (all.free (skipped + i) (omega (arith, counted)))

        total : (first.sequence + skipped) + length (compacted bs) ≡ first.sequence + length bs
        total = omega (arith, counted)
