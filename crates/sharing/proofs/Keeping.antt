-- Each event keeps the promises, and so does a run.
use Rattle.std.proofs.Common.{◌≡◌, ◌∙◌, ℕ, ◌==◌, List, [], ◌∷◌, ◌++◌, All, Option, None, Some, IsSome, IfSome, is_some, refl, sym, ap, subst, append_assoc, slice_get}
use Rattle.std.proofs.lemmas.List.{append-nil}
use Rattle.std.proofs.lemmas.List.Elements.{All-nil, All-append, All-push, All-weaker}
use mathlib.Core.List.{IsPrefix}
use Rattle.sharing.specs.Sharing.{Sharing, after, opened}
use Rattle.sharing.specs.Event.Event.{Submit, Publish, Learn, Enter, Answer, Leave}
use Rattle.sharing.specs.Event.{Event, submit, publish, learn, enter, leave, shown, learned, heard_at, step, run, heard}
use Rattle.sharing.specs.Law.{KeepsPromises, Grows}
use Rattle.sharing.proofs.Accepting.{front_accepted}
use Rattle.sharing.proofs.Prefixes.{prefix_self, prefix_more, prefix_trans, all_get}
use Rattle.sharing.proofs.Knowing.{Fits, Goes, fits_more, stays, learns, enters, leaves, one_goes, one_leaves}

module _ {S B : Type 0} (start : S) (batch : S → B → Option S) where
  abbrev IsAccepted : List B → Type 0
  IsAccepted list = IsSome (after batch start list)

  -- the properties of each sharing after some events
  pub record Keeps (w : Sharing B) : Type 0 where
    pub accepted : IsSome (after batch start (w.published ++ w.pending))
    pub receipts : All (λ receipt. IsPrefix receipt w.published) w.receipts
    pub readers : (i : ℕ) → Fits w.published (w.readers i)

  submits : (published pending : List B) (b : B) (o : Option S) → after batch start (published ++ (pending ++ b ∷ [])) ≡ o → IsAccepted (published ++ pending) → IsAccepted (published ++ submit b o pending)
  submits published pending b None e h = h
  submits published pending b (Some s) e h = ap is_some e

  publishes : (w : Sharing B) (pending : List B) → w.pending ≡ pending → Keeps w → Keeps (publish pending w)
  publishes w [] e k = k
  publishes w (b ∷ bs) e k =
      let all = w.published ++ b ∷ bs in
      record {
        accepted = subst IsAccepted (ap (λ z. w.published ++ z) e ∙ sym (append-nil all)) k.accepted;
        receipts = All-push (λ receipt. IsPrefix receipt all) w.receipts all
            (All-weaker (λ receipt. IsPrefix receipt w.published) (λ receipt. IsPrefix receipt all) (λ receipt p. prefix_more receipt w.published (b ∷ bs) p) w.receipts k.receipts)
            (prefix_self all);
        readers = λ i. fits_more w.published (b ∷ bs) (w.readers i) (k.readers i);
      }

  publish_goes : (w : Sharing B) (pending : List B) (i : ℕ) → Keeps w → Goes (publish pending w).published (w.readers i) ((publish pending w).readers i) []
  publish_goes w [] i k = stays w.published (w.readers i) (k.readers i)
  publish_goes w (b ∷ bs) i k = stays (w.published ++ b ∷ bs) (w.readers i) (fits_more w.published (b ∷ bs) (w.readers i) (k.readers i))

  publish_more : (w : Sharing B) (pending : List B) → IsPrefix w.published (publish pending w).published
  publish_more w [] = prefix_self w.published
  publish_more w (b ∷ bs) = (b ∷ bs, refl)

  keeps_opened : Keeps opened
  keeps_opened = record { accepted = refl; receipts = All-nil (λ receipt. IsPrefix receipt []); readers = λ i. record { known = ([], refl); same = tt } }

  -- an entry shows a prefix of the published batches, which was accepted whole
  answerable : (published pending known : List B) (entry : Option (List B)) → IsSome (after batch start (published ++ pending)) → IsPrefix known published → IfSome entry (λ list. list ≡ known)
      → IfSome entry (λ list. IsSome (after batch start list))
  answerable published pending known None h p e = tt
  answerable published pending known (Some list) h p e =
      let q : IsPrefix list published = subst (λ z. IsPrefix z published) (sym e) p in
      let whole : list ++ (q.0 ++ pending) ≡ published ++ pending = sym (append_assoc list q.0 pending) ∙ ap (λ z. z ++ pending) q.1 in
      front_accepted batch start list (q.0 ++ pending) (subst (λ z. IsSome (after batch start z)) (sym whole) h)

module _ {S B Q : Type 0} (start : S) (batch : S → B → Option S) where
  step_goes : (w : Sharing B) (e : Event B Q) (i : ℕ) → Keeps start batch w → Goes (step start batch w e).published (w.readers i) ((step start batch w e).readers i) (heard_at w e i)
  step_goes w (Submit b) i k = stays w.published (w.readers i) (k.readers i)
  step_goes w Publish i k = publish_goes start batch w w.pending i k
  step_goes w (Learn r n) i k =
      let old = w.readers i in
      one_goes w.published old (learn old.entered (slice_get w.receipts n) old) (learned old.entered (slice_get w.receipts n)) (i == r) (k.readers i)
      (learns w.published old old.entered (slice_get w.receipts n) (k.readers i) (all_get (λ receipt. IsPrefix receipt w.published) w.receipts n k.receipts))
  step_goes w (Enter r) i k =
      let old = w.readers i in
      one_goes w.published old (enter w.published old.entered old) (shown w.published old.entered) (i == r) (k.readers i) (enters w.published old old.entered (k.readers i))
  step_goes w (Answer r q) i k = stays w.published (w.readers i) (k.readers i)
  step_goes w (Leave r) i k = one_leaves w.published (w.readers i) (leave (w.readers i)) (i == r) (k.readers i) (leaves w.published (w.readers i) (k.readers i))

  step_keeps : (w : Sharing B) (e : Event B Q) → Keeps start batch w → Keeps start batch (step start batch w e)
  step_keeps w (Submit b) k = record {
    accepted = submits start batch w.published w.pending b (after batch start (w.published ++ (w.pending ++ b ∷ []))) refl k.accepted;
    receipts = k.receipts;
    readers = k.readers;
  }
  step_keeps w Publish k = publishes start batch w w.pending refl k
  step_keeps w (Learn r n) k = record { accepted = k.accepted; receipts = k.receipts; readers = λ i. (step_goes w (Learn r n) i k).fits }
  step_keeps w (Enter r) k = record { accepted = k.accepted; receipts = k.receipts; readers = λ i. (step_goes w (Enter r) i k).fits }
  step_keeps w (Answer r q) k = k
  step_keeps w (Leave r) k = record { accepted = k.accepted; receipts = k.receipts; readers = λ i. (step_goes w (Leave r) i k).fits }

  step_more : (w : Sharing B) (e : Event B Q) → IsPrefix w.published (step start batch w e).published
  step_more w (Submit b) = prefix_self w.published
  step_more w Publish = publish_more start batch w w.pending
  step_more w (Learn r n) = prefix_self w.published
  step_more w (Enter r) = prefix_self w.published
  step_more w (Answer r q) = prefix_self w.published
  step_more w (Leave r) = prefix_self w.published

  run_keeps : (w : Sharing B) (es : List (Event B Q)) → Keeps start batch w → Keeps start batch (run start batch w es)
  run_keeps w [] k = k
  run_keeps w (e ∷ es) k = run_keeps (step start batch w e) es (step_keeps w e k)

  run_more : (w : Sharing B) (es : List (Event B Q)) → IsPrefix w.published (run start batch w es).published
  run_more w [] = prefix_self w.published
  run_more w (e ∷ es) =
      let v = step start batch w e in
      prefix_trans w.published v.published (run start batch v es).published (step_more w e) (run_more v es)

  run_grows : (w : Sharing B) (es : List (Event B Q)) (i : ℕ) → Keeps start batch w → IsPrefix (w.readers i).known ((run start batch w es).readers i).known
  run_grows w [] i k = prefix_self (w.readers i).known
  run_grows w (e ∷ es) i k =
      let v = step start batch w e in
      prefix_trans (w.readers i).known (v.readers i).known ((run start batch v es).readers i).known (step_goes w e i k).grows (run_grows v es i (step_keeps w e k))

  run_heard : (w : Sharing B) (es : List (Event B Q)) (i : ℕ) → Keeps start batch w → All (λ list. IsPrefix list ((run start batch w es).readers i).known) (heard start batch w es i)
  run_heard w [] i k = All-nil (λ list. IsPrefix list (w.readers i).known)
  run_heard w (e ∷ es) i k =
      let v = step start batch w e in
      let last = ((run start batch v es).readers i).known in
      All-append (λ list. IsPrefix list last) (heard_at w e i) (heard start batch v es i)
      (All-weaker (λ list. IsPrefix list (v.readers i).known) (λ list. IsPrefix list last)
      (λ list p. prefix_trans list (v.readers i).known last p (run_grows v es i (step_keeps w e k))) (heard_at w e i) (step_goes w e i k).begins)
      (run_heard v es i (step_keeps w e k))

  run_append : (w : Sharing B) (a b : List (Event B Q)) → run start batch w (a ++ b) ≡ run start batch (run start batch w a) b
  run_append w [] b = refl
  run_append w (e ∷ a) b = run_append (step start batch w e) a b

  pub opened_keeps : (es : List (Event B Q)) → Keeps start batch (run start batch opened es)
  opened_keeps es = run_keeps opened es (keeps_opened start batch)

  pub opened_heard : (es : List (Event B Q)) (i : ℕ) → All (λ list. IsPrefix list ((run start batch opened es).readers i).known) (heard start batch opened es i)
  opened_heard es i = run_heard opened es i (keeps_opened start batch)

  pub keeps : KeepsPromises Q start batch
  keeps es =
      let w = run start batch opened es in
      let k = opened_keeps es in
      record {
        accepted = k.accepted;
        known = λ r. (k.readers r).known;
        receipts = k.receipts;
        begins = opened_heard es;
        answerable = λ r. answerable start batch w.published w.pending (w.readers r).known (w.readers r).entered k.accepted (k.readers r).known (k.readers r).same;
      }

  pub grows : Grows Q start batch
  grows before later r =
      let v = run start batch opened before in
      let both = run_append opened before later in (
        subst (λ w. IsPrefix v.published w.published) (sym both) (run_more v later),
        subst (λ w. IsPrefix (v.readers r).known (w.readers r).known) (sym both) (run_grows v later r (opened_keeps before)),
      )
