-- Batches that are submitted together, and the commands that submit them.
use Rattle.std.proofs.Common.{◌≡◌, ◌==◌, ℕ, zero, suc, ◌+◌, ◌-◌, ◌≤◌, List, [], ◌∷◌, ◌++◌, Option, None, Some, length, map, take, drop, true, false, refl, sym, ◌∙◌, ap, subst, arith, append_assoc, append-nil, length-append, length-drop, length-take-le, take-add, get_or, codes, take-append-drop, eqb-true}
use Rattle.std.proofs.lemmas.List.{length-map, take_more}
use Rattle.std.specs.Prelude.{◌≢◌, ◌<◌, Bool, Result, Ok, Err, IfSome, IsSome, MatchOption, OnErr, OnOk, Vec}
use Rattle.std.specs.declared.alloc.Global.{Global}
use Rattle.journal.specs.Texts.{texts_of}
use Rattle.std.specs.Io.KnownBytes.{Consumes}
use Rattle.std.proofs.KnownBytes.{Consumes-nil, Consumes-trans}
use Rattle.std.proofs.lemmas.List.Folds.{list_any-append}
use Rattle.streams.specs.Sent.{IsSent, IsCutSomewhere}
use Rattle.streams.specs.Sides.{Attended, SidesView}
use Rattle.streams.proofs.Sending.{cut-more, sent-cut, sent-sent}
use Rattle.std.specs.List.{list_any}
use Rattle.sharing.specs.Sharing.{after}
use Rattle.sharing.proofs.Accepting.{front_accepted}
use Rattle.batches.specs.Batch.{State, accepted, batched}
use Rattle.batches.specs.declared.fault.BatchError.{BatchError}
use Rattle.batches.specs.declared.fault.BatchError.TheVariants as error
use Rattle.batches.specs.declared.fault.BatchFault.{BatchFault}
use Rattle.mapshare.specs.Checking.{StopsAt}
use Rattle.mapshare.specs.declared.checking.Accepted.{Accepted}
use Rattle.mapshare.specs.Admin.{Batches, HasAccepted, IsAccepted, IsRefused, all_of, with_batch, with_batches}
use Rattle.administration.specs.Commands.{Command, Submit}
use Rattle.administration.specs.Keeping.{HasFailed, HasSent, IsCutShort, IsFailed, IsReported, accepted_results, failed_lines, refused_results}
use Rattle.administration.specs.Reading.{AreCommandsOf, HasNext, IsCommandOf, StartWith}
use Rattle.administration.specs.Serving.{AreDone, ArePublished, AreSubmitted, HasDone, done_line, is_malformed, lines_of}
use Rattle.administration.specs.declared.done.Done.{Done}
use Rattle.administration.specs.declared.group.Next.{Next}
use Rattle.administration.specs.declared.group.Next.TheVariants as next
use Rattle.administration.specs.declared.group.TheConstants.{MAX_GROUP}
use Rattle.administration.specs.declared.done.Done.TheVariants as done
use Rattle.administration.proofs.Steps.{HasCome, all-done}

-- no batch is malformed
pub well-formed : (batches : List (List ℕ)) → list_any is_malformed (map Submit batches) ≡ false
well-formed [] = refl
well-formed (batch ∷ batches) = well-formed batches

-- batches that were submitted are commands that are done
pub submitted-done : (opening : State) (old : Batches) (batches : List (List ℕ)) (results : List Done) (between : Batches) (bytes middle : List ℕ) (others : List Command) (lines rest : List ℕ) (new : Batches)
    → AreSubmitted opening old batches results between → StartWith (map Submit batches) bytes middle → AreDone opening others between middle lines rest new
    → AreDone opening (map Submit batches ++ others) old bytes (lines_of results ++ lines) rest new
submitted-done opening old [] [] between bytes middle others lines rest new same begins then =
    subst (λ (b : Batches). AreDone opening others b bytes lines rest new) same (subst (λ (l : List ℕ). AreDone opening others between l lines rest new) begins then)
submitted-done opening old [] (what ∷ results) between bytes middle others lines rest new is begins then = absurd is
submitted-done opening old (batch ∷ batches) [] between bytes middle others lines rest new is begins then = absurd is
submitted-done opening old (batch ∷ batches) (what ∷ results) between bytes middle others lines rest new (next, has, more) (after, first, starts) then = (
  what,
  next,
  lines_of results ++ lines,
  after,
  first,
  (λ bad. absurd (cc bad)),
  has,
  submitted-done opening next batches results between after middle others lines rest new more starts then,
  append_assoc _ (lines_of results) lines,
)

-- the lines of some results, and then of more
pub lines-append : (one two : List Done) → lines_of (one ++ two) ≡ lines_of one ++ lines_of two
lines-append [] two = refl
lines-append (what ∷ one) two = ap (λ (l : List ℕ). done_line what ++ l) (lines-append one two) ∙ sym (append_assoc (done_line what) (lines_of one) (lines_of two))

-- the lines of one more result
pub lines-more : (results : List Done) (index : ℕ) (other : Done) → index < length results → lines_of (take index results) ++ done_line (get_or results index other) ≡ lines_of (take (index + 1) results)
lines-more results index other within =
    let what = get_or results index other in
    ap (λ (l : List ℕ). lines_of (take index results) ++ l) (sym (append-nil (done_line what)))
    ∙ (sym (lines-append (take index results) (what ∷ [])) ∙ ap lines_of (sym (take_more results index other within)))

-- the first lines were sent, and the first bytes of the next
pub lines-cut : {O : Type 0} (held : O → Option (List ℕ)) (taken : O → ℕ) (first middle last : O) (results : List Done) (index : ℕ) (other : Done) → index < length results
    → IsSent held taken first (lines_of (take index results)) middle → IsCutSomewhere held taken middle (done_line (get_or results index other)) last → IsCutSomewhere held taken first (lines_of results) last
lines-cut held taken first middle last results index other within sent cut =
    let earlier = lines_of (take (index + 1) results) in
    let later = lines_of (drop (index + 1) results) in
    let whole : earlier ++ later ≡ lines_of results =
    sym (lines-append (take (index + 1) results) (drop (index + 1) results)) ∙ ap lines_of (take-append-drop (index + 1) results) in
    subst (λ (l : List ℕ). IsCutSomewhere held taken first l last) whole
    (cut-more held taken first last earlier later
    (subst (λ (l : List ℕ). IsCutSomewhere held taken first l last) (lines-more results index other within) (sent-cut held taken first middle last _ _ sent cut)))

-- one line of a failure more
failed-more : (count : ℕ) → failed_lines (suc count) ≡ failed_lines count ++ codes "FAILED\n"
failed-more zero = refl
failed-more (suc count) = ap (λ (l : List ℕ). codes "FAILED\n" ++ l) (failed-more count) ∙ sym (append_assoc (codes "FAILED\n") (failed_lines count) (codes "FAILED\n"))

failed-append : (one two : ℕ) → failed_lines (one + two) ≡ failed_lines one ++ failed_lines two
failed-append zero two = ap failed_lines (omega arith)
failed-append (suc one) two =
    let next : suc one + two ≡ suc (one + two) = omega arith in
    ap failed_lines next ∙ (ap (λ (l : List ℕ). codes "FAILED\n" ++ l) (failed-append one two) ∙ sym (append_assoc (codes "FAILED\n") (failed_lines one) (failed_lines two)))

-- so many lines of failures after others, and one more
pub reported-more : (lines : List ℕ) (count : ℕ) → (lines ++ failed_lines count) ++ codes "FAILED\n" ≡ lines ++ failed_lines (count + 1)
reported-more lines count =
    let next : suc count ≡ count + 1 = omega arith in
    append_assoc lines (failed_lines count) (codes "FAILED\n") ∙ ap (λ (l : List ℕ). lines ++ l) (sym (failed-more count) ∙ ap failed_lines next)

-- and those after it
pub reported-all : (lines : List ℕ) (count all : ℕ) → count < all → ((lines ++ failed_lines count) ++ codes "FAILED\n") ++ failed_lines (all - (count + 1)) ≡ lines ++ failed_lines all
reported-all lines count all less =
    let whole : count + 1 + (all - (count + 1)) ≡ all = omega (arith, less) in
    ap (λ (l : List ℕ). l ++ failed_lines (all - (count + 1))) (reported-more lines count)
    ∙ (append_assoc lines (failed_lines (count + 1)) (failed_lines (all - (count + 1))) ∙ ap (λ (l : List ℕ). lines ++ l) (sym (failed-append (count + 1) (all - (count + 1))) ∙ ap failed_lines whole))

-- as many batches as results
pub submitted-count : (opening : State) (old : Batches) (batches : List (List ℕ)) (results : List Done) (new : Batches) → AreSubmitted opening old batches results new → length batches ≡ length results
submitted-count opening old [] [] new is = refl
submitted-count opening old [] (what ∷ results) new is = absurd is
submitted-count opening old (batch ∷ batches) [] new is = absurd is
submitted-count opening old (batch ∷ batches) (what ∷ results) new (between, has, more) = ap suc (submitted-count opening between batches results new more)

-- some batches, and then more
pub submitted-more : (opening : State) (old : Batches) (batches : List (List ℕ)) (results : List Done) (between : Batches) (others : List (List ℕ)) (later : List Done) (new : Batches)
    → AreSubmitted opening old batches results between → AreSubmitted opening between others later new → AreSubmitted opening old (batches ++ others) (results ++ later) new
submitted-more opening old [] [] between others later new same then = subst (λ (b : Batches). AreSubmitted opening b others later new) same then
submitted-more opening old [] (what ∷ results) between others later new is then = absurd is
submitted-more opening old (batch ∷ batches) [] between others later new is then = absurd is
submitted-more opening old (batch ∷ batches) (what ∷ results) between others later new (next, has, more) then =
    (next, has, submitted-more opening next batches results between others later new more then)

-- none more
none-more : (old : Batches) → with_batches [] old ≡ old
none-more old = ap (λ (l : List (List ℕ)). record { published = old.published; pending = l }) (append-nil old.pending)

-- one, and then the others
one-first : (batch : List ℕ) (batches : List (List ℕ)) (old : Batches) → with_batches batches (with_batch batch old) ≡ with_batches (batch ∷ batches) old
one-first batch batches old = ap (λ (l : List (List ℕ)). record { published = old.published; pending = l }) (append_assoc old.pending (batch ∷ []) batches)

-- where all are accepted, the first are
first-accepted : (opening : State) (old : Batches) (batch : List ℕ) (batches : List (List ℕ)) → IsAccepted opening (with_batches (batch ∷ batches) old) → IsAccepted opening (with_batch batch old)
first-accepted opening old batch batches is =
    let whole : all_of (with_batches (batch ∷ batches) old) ≡ all_of (with_batch batch old) ++ batches =
    sym (append_assoc old.published (old.pending ++ batch ∷ []) batches ∙ ap (λ (l : List (List ℕ)). old.published ++ l) (append_assoc old.pending (batch ∷ []) batches)) in
    front_accepted accepted opening (all_of (with_batch batch old)) batches (subst (λ (l : List (List ℕ)). IsSome (after accepted opening l)) whole is)

-- accepted batches that are pending
pub held : (opening : State) (old : Batches) (batches : List (List ℕ)) → IsAccepted opening (with_batches batches old)
    → AreSubmitted opening old batches (accepted_results None (length batches)) (with_batches batches old)
held opening old [] is = none-more old
held opening old (batch ∷ batches) is =
    let same = one-first batch batches old in (
      with_batch batch old,
      (first-accepted opening old batch batches is, refl),
      subst (λ (b : Batches). AreSubmitted opening (with_batch batch old) batches (accepted_results None (length batches)) b) same
          (held opening (with_batch batch old) batches (subst (IsAccepted opening) (sym same) is)),
    )

-- all of some batches are published
abbrev published : List (List ℕ) → Batches
published batches = record { published = batches; pending = [] }

-- accepted batches that are published, with all from before
shown-all : (opening : State) (old : Batches) (batch : List ℕ) (batches all : List (List ℕ)) → all ≡ all_of (with_batches (batch ∷ batches) old) → IsAccepted opening (with_batches (batch ∷ batches) old)
    → AreSubmitted opening old (batch ∷ batches) (accepted_results (Some (opening.sequence + length all)) (length (batch ∷ batches))) (published all)
shown-all opening old batch [] all whole is = (
  published (all_of (with_batch batch old)),
  (is, (refl, omega (arith, ap length whole))),
  ap published whole,
)
shown-all opening old batch (next ∷ batches) all whole is =
    let first = all_of (with_batch batch old) in
    let parts : all_of (with_batches (batch ∷ next ∷ batches) old) ≡ first ++ next ∷ batches =
    sym (append_assoc old.published (old.pending ++ batch ∷ []) (next ∷ batches) ∙ ap (λ (l : List (List ℕ)). old.published ++ l) (append_assoc old.pending (batch ∷ []) (next ∷ batches))) in
    let later : IsAccepted opening (with_batches (next ∷ batches) (published first)) = subst (λ (l : List (List ℕ)). IsSome (after accepted opening l)) parts is in
    let sequence : opening.sequence + length all - length (next ∷ batches) ≡ opening.sequence + length first = omega (arith, ap length (whole ∙ parts), length-append first (next ∷ batches)) in (
      published first,
      (first-accepted opening old batch (next ∷ batches) is, (refl, sequence)),
      shown-all opening (published first) next batches all (whole ∙ parts) later,
    )

pub shown : (opening : State) (old : Batches) (batch : List ℕ) (batches : List (List ℕ)) → IsAccepted opening (with_batches (batch ∷ batches) old)
    → AreSubmitted opening old (batch ∷ batches) (accepted_results (Some (opening.sequence + length (all_of (with_batches (batch ∷ batches) old)))) (length (batch ∷ batches)))
    (published (all_of (with_batches (batch ∷ batches) old)))
shown opening old batch batches is = shown-all opening old batch batches (all_of (with_batches (batch ∷ batches) old)) refl is

-- how many results there are
pub results-count : (sequence : Option ℕ) (count : ℕ) → length (accepted_results sequence count) ≡ count
results-count sequence zero = refl
results-count None (suc count) = ap suc (results-count None count)
results-count (Some last) (suc count) = ap suc (results-count (Some last) count)

-- some elements are left
left-over : {X : Type 0} (n : ℕ) (xs : List X) → n < length xs → (x : X) × (rest : List X) × (drop n xs ≡ x ∷ rest)
left-over zero [] less = absurd (omega (arith, less))
left-over zero (x ∷ xs) less = (x, xs, refl)
left-over (suc n) [] less = absurd (omega (arith, less))
left-over (suc n) (y ∷ xs) less = left-over n xs (omega (arith, less))

-- accepted batches are published, or pending
accepted-done : (opening : State) (old : Batches) (batches : List (List ℕ)) (sequence : Option ℕ) (new : Batches) → IsAccepted opening (with_batches batches old) → IfSome sequence (λ last. batches ≢ [])
    → MatchOption sequence (new ≡ with_batches batches old) (λ last. ArePublished opening (all_of (with_batches batches old)) last new)
    → AreSubmitted opening old batches (accepted_results sequence (length batches)) new
accepted-done opening old batches None new is some same = subst (λ (b : Batches). AreSubmitted opening old batches (accepted_results None (length batches)) b) (sym same) (held opening old batches is)
accepted-done opening old [] (Some last) new is some are = absurd (some refl)
accepted-done opening old (batch ∷ batches) (Some last) new is some (same, count) =
    subst (λ (b : Batches). AreSubmitted opening old (batch ∷ batches) (accepted_results (Some last) (length (batch ∷ batches))) b) (sym same)
    (subst (λ (n : ℕ). AreSubmitted opening old (batch ∷ batches) (accepted_results (Some n) (length (batch ∷ batches))) (published (all_of (with_batches (batch ∷ batches) old)))) (sym count)
    (shown opening old batch batches is))

-- the same batches were accepted, whether they are published or pending
pub same-all : (opening : State) (between : Batches) (sequence : Option ℕ) (new : Batches) → MatchOption sequence (new ≡ between) (λ last. ArePublished opening (all_of between) last new) → all_of new ≡ all_of between
same-all opening between None new same = ap all_of same
same-all opening between (Some last) new are = ap all_of are.0 ∙ append-nil (all_of between)

-- the batch after them
refused-done : (opening : State) (between : Batches) (batches : List (List ℕ)) (count : ℕ) (refused : Option BatchError) (new : Batches) → StopsAt (IsRefused opening between) batches count refused → all_of new ≡ all_of between
    → AreSubmitted opening new (take (length (refused_results refused)) (drop count batches)) (refused_results refused) new
refused-done opening between batches count None new stop same = refl
refused-done opening between batches count (Some (error.Fault fault)) new (batch, rest, next, is) same =
    rw next (new, (subst (λ (l : List (List ℕ)). (state : State) × (after accepted opening l ≡ Some state) × (batched batch state ≡ Err fault)) (sym same) is, refl), refl)
refused-done opening between batches count (Some error.NoMemory) new less same =
    let (batch, rest, next) = left-over count batches less in
    rw next (new, refl, refl)

-- what follows where there is a value
if-some : {X : Type 0} (o : Option X) (P Q : Type 0) → (P → Q) → IfSome o (λ x. P) → IfSome o (λ x. Q)
if-some None P Q f is = tt
if-some (Some x) P Q f is = f is

-- the first batches are done
pub front-done : (opening : State) (old : Batches) (batches : List (List ℕ)) (found : Accepted) (between : Batches) (sequence : Option ℕ) (new : Batches)
    → HasAccepted opening old batches found between → IfSome sequence (λ last. 1 ≤ found.count) → MatchOption sequence (new ≡ between) (λ last. ArePublished opening (all_of between) last new)
    → AreSubmitted opening old (take (length (accepted_results sequence found.count ++ refused_results found.refused)) batches) (accepted_results sequence found.count ++ refused_results found.refused) new
front-done opening old batches found between sequence new has some are =
    let first = take found.count batches in
    let long : length first ≡ found.count = length-take-le found.count batches has.within in
    let is : IsAccepted opening (with_batches first old) = subst (IsAccepted opening) has.pending has.made in
    let none : IfSome sequence (λ last. first ≢ []) = if-some sequence (1 ≤ found.count) (first ≢ []) (λ many empty. absurd (omega (arith, many, long, ap length empty))) some in
    let accepted : AreSubmitted opening old first (accepted_results sequence found.count) new = rw long at
    (accepted-done opening old first sequence new is none (subst (λ (b : Batches). MatchOption sequence (new ≡ b) (λ last. ArePublished opening (all_of b) last new)) has.pending are)) in
    let refused = refused-done opening between batches found.count found.refused new has.stop (same-all opening between sequence new are) in
    rw (length-append (accepted_results sequence found.count) (refused_results found.refused), results-count sequence found.count, take-add found.count (length (refused_results found.refused)) batches)
    (submitted-more opening old first (accepted_results sequence found.count) new _ (refused_results found.refused) new accepted refused)

-- accepted batches are pending
pub some-pending : (old : Batches) (batches : List (List ℕ)) → 1 ≤ length batches → (with_batches batches old).pending ≢ []
some-pending old batches some none = absurd (omega (arith, some, length-append old.pending batches, ap length none))

-- how many batches are done: one at least, if there is any, and no more than there are
pub results-some : (has : List ℕ → BatchFault → Type 0) (batches : List (List ℕ)) (sequence : Option ℕ) (count : ℕ) (refused : Option BatchError) → StopsAt has batches count refused
    → 1 ≤ length batches → 1 ≤ length (accepted_results sequence count ++ refused_results refused)
results-some has batches sequence count None stop some = omega (arith, stop, some, length-append (accepted_results sequence count) [], results-count sequence count)
results-some has batches sequence count (Some (error.Fault fault)) stop some = omega (arith, length-append (accepted_results sequence count) (done.Refused fault ∷ []))
results-some has batches sequence count (Some error.NoMemory) stop some = omega (arith, length-append (accepted_results sequence count) (done.NoMemory ∷ []))

pub results-few : (has : List ℕ → BatchFault → Type 0) (batches : List (List ℕ)) (sequence : Option ℕ) (count : ℕ) (refused : Option BatchError) → StopsAt has batches count refused
    → count ≤ length batches → length (accepted_results sequence count ++ refused_results refused) ≤ length batches
results-few has batches sequence count None stop within = omega (arith, within, length-append (accepted_results sequence count) [], results-count sequence count)
results-few has batches sequence count (Some (error.Fault fault)) (batch, rest, next, is) within =
    omega (arith, length-append (accepted_results sequence count) (done.Refused fault ∷ []), results-count sequence count, length-drop count batches, ap length next)
results-few has batches sequence count (Some error.NoMemory) less within =
    omega (arith, less, length-append (accepted_results sequence count) (done.NoMemory ∷ []), results-count sequence count)

-- accepted batches come after all from before
pub all-with : (old : Batches) (batches : List (List ℕ)) → all_of (with_batches batches old) ≡ all_of old ++ batches
all-with old batches = sym (append_assoc old.published old.pending batches)

-- where the keeper failed, as many are left as have no result
pub failed-counted : (opening : State) (old : Batches) (first failed : List (List ℕ)) (results : List Done) (new : Batches) {all : List (List ℕ)} → all ≡ first ++ failed → AreSubmitted opening old first results new
    → length results + length failed ≡ length all
failed-counted opening old first failed results new whole is = omega (arith, submitted-count opening old first results new is, ap length whole, length-append first failed)

-- no more results than batches
pub results-within : {T E : Type 0} (done : Result T E) (opening : State) (old : Batches) (batches : List (List ℕ)) (results : List Done) (new : Batches)
    → OnOk done (AreSubmitted opening old batches results new)
    → OnErr done ((first failed : List (List ℕ)) × (batches ≡ first ++ failed) × AreSubmitted opening old first results new × HasFailed opening new failed)
    → length results ≤ length batches
results-within (Ok x) opening old batches results new submitted none = omega (arith, submitted-count opening old batches results new submitted)
results-within (Err x) opening old batches results new none (first, failed, whole, submitted, fails) = omega (arith, failed-counted opening old first failed results new whole submitted)

-- a rest that the test for an empty one takes has nothing
pub nothing-left : {X : Type 0} (rest : List X) (empty : Bool) → empty ≡ (length rest == 0) → empty ≡ true → rest ≡ []
nothing-left [] empty e f = refl
nothing-left (x ∷ rest) empty e f = let nothing : suc (length rest) ≡ 0 = eqb-true (suc (length rest)) 0 (sym e ∙ f) in absurd (omega arith)

-- the texts of the batches that are left
pub texts-drop : (count : ℕ) (batches : List (Vec ℕ Global)) → texts_of (drop count batches) ≡ drop count (texts_of batches)
texts-drop zero batches = refl
texts-drop (suc count) [] = refl
texts-drop (suc count) (batch ∷ batches) = texts-drop count batches

-- what was read after the batches
pub next-read : (before after : Option (List ℕ)) (failed : Bool) (then : Next) → HasNext before after failed then → (bytes : List ℕ) × Consumes before after bytes
next-read before after failed next.Nothing same = ([], subst (λ (o : Option (List ℕ)). Consumes before o []) (sym same) (Consumes-nil before))
next-read before after failed (next.Command what) (bytes, command, came, is, others) = (bytes, came)
next-read before after failed next.End (bytes, ended, none) = (bytes, ended.read)

module _ {R W : Type 0} (opening : State) (sides : SidesView R W) (start : Attended R W Batches) (left : Option (List ℕ)) (now : Batches) (current : W)
    (come : HasCome opening sides start left now current) where
  -- the commands so far, with the bytes that were read after them
  sent-so-far : (reader : R) (piece : List ℕ) → Consumes left (sides.left reader) piece → HasSent opening sides start (record { reader = reader; writer = current; asked = now }) piece
  sent-so-far reader piece came = record {
    commands = come.commands;
    lines = come.lines;
    done = all-done opening sides start left now current come reader current piece came;
    well_formed = come.well_formed;
    sent = come.sent;
  }

  module _ (middle : Option (List ℕ)) (bytes : List ℕ) (batches : List (List ℕ)) (came : Consumes left middle bytes) (are : AreCommandsOf bytes (map Submit batches)) where
    -- these batches are done, and the commands after them go on from there
    pub group-more : (results : List Done) (next : Batches) (last : W) → AreSubmitted opening now batches results next → IsSent sides.held sides.taken current (lines_of results) last
        → HasCome opening sides start middle next last
    group-more results next last submitted sent = record {
      bytes = come.bytes ++ bytes;
      commands = come.commands ++ map Submit batches;
      well_formed = rw (list_any-append is_malformed come.commands (map Submit batches), come.well_formed) (well-formed batches);
      lines = come.lines ++ lines_of results;
      came = Consumes-trans (sides.left start.reader) left middle come.bytes bytes come.came came;
      sent = sent-sent sides.held sides.taken start.writer current last come.lines (lines_of results) come.sent sent;
      follows = λ others more later rest new done.
          rw (append_assoc come.commands (map Submit batches) others, append_assoc come.bytes bytes more, append_assoc come.lines (lines_of results) later)
          (come.follows (map Submit batches ++ others) (bytes ++ more) (lines_of results ++ later) rest new
          (submitted-done opening now batches results next (bytes ++ more) more others later rest new submitted (are more) done));
    }

    -- the writer failed within the lines of these batches
    pub group-cut : (reader : R) (more : List ℕ) (results : List Done) (next : Batches) (last : W) → Consumes middle (sides.left reader) more → length batches ≤ MAX_GROUP
        → AreSubmitted opening now batches results next → IsCutSomewhere sides.held sides.taken current (lines_of results) last
        → IsCutShort opening sides start (record { reader = reader; writer = last; asked = next })
    group-cut reader more results next last read few submitted cut =
        let done : AreDone opening (map Submit batches ++ []) now (bytes ++ more) (lines_of results ++ []) more next =
        submitted-done opening now batches results next (bytes ++ more) more [] [] more next submitted (are more) (refl, refl, refl) in
        record {
          bytes = bytes ++ more;
          between = now;
          middle = current;
          earlier = sent-so-far reader (bytes ++ more) (Consumes-trans left middle (sides.left reader) bytes more came read);
          commands = map Submit batches;
          lines = lines_of results;
          rest = more;
          done = rw (append-nil (map Submit batches), append-nil (lines_of results)) at done;
          few = rw (length-map batches Submit) few;
          cut = cut;
        }

    -- the keeper failed
    pub group-failed : (reader : R) (more : List ℕ) (done failed : List (List ℕ)) (results : List Done) (next : Batches) (last : W) → Consumes middle (sides.left reader) more → length batches ≤ MAX_GROUP → batches ≡ done ++ failed
        → AreSubmitted opening now done results next → HasFailed opening next failed → IsReported sides.held sides.taken current (lines_of results ++ failed_lines (length failed)) last
        → IsFailed opening sides start (record { reader = reader; writer = last; asked = next })
    group-failed reader more done failed results next last read few whole submitted fails reported = record {
      bytes = bytes ++ more;
      between = now;
      middle = current;
      earlier = sent-so-far reader (bytes ++ more) (Consumes-trans left middle (sides.left reader) bytes more came read);
      batches = done;
      failed = failed;
      results = results;
      rest = more;
      begins = subst (λ (l : List (List ℕ)). StartWith (map Submit l) (bytes ++ more) more) whole (are more);
      few = subst (λ (l : List (List ℕ)). length l ≤ MAX_GROUP) whole few;
      done = submitted;
      fails = fails;
      reported = reported;
    }

  -- the writer failed within the line of another command
  pub other-cut : (reader : R) (piece : List ℕ) (command : Command) (what : Done) (next : Batches) (last : W) → Consumes left (sides.left reader) piece → IsCommandOf piece command
      → HasDone opening now command what next → IsCutSomewhere sides.held sides.taken current (done_line what) last
      → IsCutShort opening sides start (record { reader = reader; writer = last; asked = next })
  other-cut reader piece command what next last came is has cut = record {
    bytes = piece;
    between = now;
    middle = current;
    earlier = sent-so-far reader piece came;
    commands = command ∷ [];
    lines = done_line what;
    rest = [];
    done = (what, next, [], [], rw (append-nil piece) at (is []), (λ bad. refl), has, (refl, refl, refl), sym (append-nil (done_line what)));
    few = omega arith;
    cut = cut;
  }
