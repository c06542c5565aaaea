-- How a session goes on: by bytes, by the end of its stream, and by bytes that were sent.
use Rattle.std.proofs.Common.{◌≡◌, ◌∙◌, ◌+◌, ◌-◌, ℕ, suc, List, [], ◌∷◌, ◌++◌, Bool, true, false, not, ◌&&◌, ◌==◌, None, Some, Ok, Err, if◌then◌else◌, inl, inr, length, take, refl, sym, ap, subst, arith, append-nil}
use Rattle.std.proofs.lemmas.Bool.{ne_eqb}
use Rattle.std.proofs.lemmas.Bool.Decides.{leb_tells}
use Rattle.std.proofs.lemmas.List.{take_all}
use Rattle.std.specs.Prelude.{codes}
use Rattle.std.specs.Fmt.{decimal, digits}
use Rattle.operations.specs.Mime.{mime_text}
use Rattle.httpedge.specs.Connection.{Progress, Open, Decided, Course, Feeds, Ends, step_of, target_of, is_decided, is_closing, goes_on, forgotten, settled, ends_by}
use Rattle.httpedge.specs.Exchange.{Said, IsReply, IsExchange, IsBegun}
use Rattle.httpedge.specs.Head.{IsTargetOf}
use Rattle.httpedge.specs.Response.{HasStatus, body_text, head_end, outcome_status, refusal_lines, busy_lines, refusal_text, response}
use Rattle.httpedge.specs.Meaning.{Meaning, Nothing, Refused, Asks, decision_meaning}
use Rattle.httpedge.specs.Serving.{IsOpen, IsReading, HasCome, came_of, requests_left, rest_of_course}
use Rattle.httpedge.specs.Session.{SessionState, HasResponded, HasRespondedAt, HasRespondedWith, QueryOutcome, HasAsked, says_as_listed, wants, ReadsOn, is_reading, stage_after, is_done, new_session}
use Rattle.httpedge.specs.declared.conn.TheConstants.{REQUESTS}
use Rattle.httpedge.specs.declared.decision.Decision.{Decision}
use Rattle.httpedge.specs.declared.decision.Decision.TheVariants as decision
use Rattle.httpedge.specs.declared.outcome.Outcome.{Outcome}
use Rattle.httpedge.specs.declared.outcome.Outcome.TheVariants.{Answered}
use Rattle.httpedge.specs.declared.outcome.Outcome.TheVariants as outcome
use Rattle.httpedge.specs.declared.refusal.Refusal.TheVariants.{BadRequest, NotFound, MethodNotAllowed}
use Rattle.httpedge.specs.declared.stage.Stage.{Stage}
use Rattle.httpedge.specs.declared.stage.Stage.TheVariants.{Reading, Closed, Ended}
use Rattle.httpedge.proofs.Courses.{next-came, last-came, more-came}
use Rattle.httpedge.proofs.Serving.{come-first, so_far, rest_by}
use Rattle.httpedge.proofs.Ending.{end-nothing, end-replied, come-ended, come-begun}

-- where a session takes further bytes, heads are read and nothing is to be sent
pub wants-reads : (s : Stage) (out : List ℕ) → (is_reading s && (length out == 0)) ≡ true → (s ≡ Reading) × (out ≡ [])
wants-reads Reading [] e = (refl, refl)
wants-reads Reading (x ∷ out) e = absurd (let f : (length (x ∷ out) == 0) ≡ false = ne_eqb (length (x ∷ out)) 0 (λ z. absurd (omega (arith, z))) in cc)
wants-reads Closed out e = absurd (cc)
wants-reads Ended out e = absurd (cc)

-- where nothing is decided, all of the piece was taken
feeds-all : (p q : Progress) (piece : List ℕ) (taken : ℕ) → IsOpen p → Feeds p piece taken q → step_of q ≡ None → taken ≡ length piece
feeds-all (Open came) (Open bytes) piece taken opened feeds step =
    elim (leb_tells (length piece) taken) [
      | inl h ↦ omega (arith, h.1, feeds.bound)
      | inr h ↦ absurd (let e : false ≡ true = feeds.cut (omega (arith, h.1)) in cc)
    ]
feeds-all (Open came) (Decided closes decided target) piece taken opened feeds step = absurd (cc)
feeds-all (Decided closes decided target) q piece taken opened feeds step = absurd opened

-- the response of a connection to a decision
pub record HasReplied {A : Type 0} (answers : A → List ℕ → Said → A → Type 0) (piece : List ℕ) (taken : ℕ) (old fed : Course) (now : A) (reply : List ℕ) (between : A) : Type 0 where
  pub decision : Decision
  pub reading : IsReading old
  pub feeds : Feeds old.progress piece taken fed.progress
  pub done : fed.done ≡ old.done
  pub step : step_of fed.progress ≡ Some decision
  pub replies : IsReply answers (is_closing fed) (decision_meaning decision (target_of fed.progress)) now reply between

-- a decision that ends the connection, and one that doesn't
stops : (p : Progress) (closing : Bool) → true ≡ closing → (is_decided p && not closing) ≡ false
stops (Open came) closing e = refl
stops (Decided closes decided target) true e = refl
stops (Decided closes decided target) false e = absurd (cc)

goes-further : (p : Progress) (d : Decision) (closing : Bool) → step_of p ≡ Some d → false ≡ closing → (is_decided p && not closing) ≡ true
goes-further (Open came) d closing step e = absurd (cc)
goes-further (Decided closes decided target) d true step e = absurd (cc)
goes-further (Decided closes decided target) d false step e = refl

-- where nothing is decided, no head is forgotten
settled-open : (course : Course) → step_of course.progress ≡ None → settled course ≡ course
settled-open course step = ap (λ (b : Bool). if b then forgotten course else course) (go course.progress (not (is_closing course)) step)
  where
    go : (p : Progress) (b : Bool) → step_of p ≡ None → (is_decided p && b) ≡ false
    go (Open came) b step = refl
    go (Decided closes decided target) b step = absurd (cc)

-- a session takes further bytes, and the last head is forgotten
pub record IsOpened (s : SessionState) (old : Course) : Type 0 where
  pub at : s.course ≡ old
  pub wanted : wants s ≡ true
  pub reading : IsReading old

pub opened-by : (s : SessionState) (inside old : Course) (out : List ℕ) (stage : Stage) (status : ℕ)
    → ◌≡◌ {A = SessionState} (record { course = settled inside; outgoing = out; stage = stage; target = target_of inside.progress; status = status }) s
    → old ≡ settled inside → wants s ≡ true → ReadsOn stage (settled inside) → IsOpened s old
opened-by s inside old out stage status view forgets wanted reads = record {
  at = sym (forgets ∙ ap (λ (t : SessionState). t.course) view);
  wanted = wanted;
  reading = rw forgets (subst (λ (t : Stage). ReadsOn t (settled inside)) (ap (λ (t : SessionState). t.stage) view ∙ (wants-reads s.stage s.outgoing wanted).0) reads);
}

-- the bytes that came while heads were read and nothing was to be sent
reading-came : {A : Type 0} (answers : A → List ℕ → Said → A → Type 0) (s : SessionState) (old : Course) → IsOpened s old → (read written : List ℕ) (first now : A) → HasResponded answers read first written s now →
    HasCome answers REQUESTS (so_far read first written) (rest_of_course old now)
reading-came answers s old opened read written first now responded =
    let (reads, quiet) = wants-reads s.stage s.outgoing opened.wanted in
    let open_still : HasRespondedAt Reading answers (so_far read first (written ++ s.outgoing)) s.course now = subst (λ (t : Stage). HasRespondedAt t answers (so_far read first (written ++ s.outgoing)) s.course now) reads responded in
    let all : written ++ s.outgoing ≡ written = ap (λ l. written ++ l) quiet ∙ append-nil written in
    let here : HasCome answers REQUESTS (so_far read first written) (rest_of_course s.course now) =
    subst (λ (l : List ℕ). HasCome answers REQUESTS (so_far read first l) (rest_of_course s.course now)) all open_still in
    subst (λ (c : Course). HasCome answers REQUESTS (so_far read first written) (rest_of_course c now)) opened.at here

-- what holds of a session after a head that was answered
pub responded-by : {A : Type 0} (answers : A → List ℕ → Said → A → Type 0) (s : SessionState) (old fed : Course) → IsOpened s old → (piece : List ℕ) (taken : ℕ) (now between : A) (reply : List ℕ) → HasReplied answers piece taken old fed now reply between →
    (closing : Bool) (stage : Stage) → closing ≡ is_closing fed → stage ≡ stage_after closing →
    (read written : List ℕ) (first : A) → HasResponded answers read first written s now → HasRespondedAt stage answers (so_far (read ++ take taken piece) first (written ++ reply)) (settled fed) between
responded-by answers s old fed opened piece taken now between reply r true stage e is read written first responded =
    rw is (last-came answers REQUESTS read written piece reply first now between old fed taken r.decision (goes_on fed) r.reading r.feeds r.done r.step r.replies refl (stops fed.progress (is_closing fed) e)
    (reading-came answers s old opened read written first now responded))
responded-by answers s old fed opened piece taken now between reply r false stage e is read written first responded =
    let (reading, further, less) = next-came answers REQUESTS read written piece reply first now between old fed (settled fed) taken r.decision (goes_on fed) r.reading r.feeds r.done r.step r.replies refl
    (goes-further fed.progress r.decision (is_closing fed) r.step e) refl (reading-came answers s old opened read written first now responded) in
    rw is further

-- a session reads on after a head that doesn't end its connection
pub reads-by : {A : Type 0} (answers : A → List ℕ → Said → A → Type 0) (piece : List ℕ) (taken : ℕ) (old fed : Course) (now between : A) (reply : List ℕ) → HasReplied answers piece taken old fed now reply between →
    (closing : Bool) (stage : Stage) → closing ≡ is_closing fed → stage ≡ stage_after closing → ReadsOn stage (settled fed)
reads-by answers piece taken old fed now between reply r true stage e is = rw is search
reads-by answers piece taken old fed now between reply r false stage e is =
    let (reading, further, less) = next-came answers (requests_left old) (came_of old.progress ++ []) [] piece reply now now between old fed (settled fed) taken r.decision (goes_on fed) r.reading r.feeds r.done r.step r.replies refl
    (goes-further fed.progress r.decision (is_closing fed) r.step e) refl (come-first answers (requests_left old) (came_of old.progress) now) in
    rw is reading

-- the same where nothing is decided
pub reads-more : (s : SessionState) (old fed : Course) → IsOpened s old → (piece : List ℕ) (taken : ℕ) (stage : Stage) → stage ≡ s.stage → Feeds old.progress piece taken fed.progress → fed.done ≡ old.done → step_of fed.progress ≡ None →
    ReadsOn stage (settled fed)
reads-more s old fed opened piece taken stage same feeds done step =
    let (leaves, come) = more-came says_as_listed (requests_left old) (requests_left old) (came_of old.progress ++ []) [] piece [] [] old.progress fed.progress taken opened.reading.opened feeds step
    (come-first says_as_listed (requests_left old) (came_of old.progress) []) in
    let still : IsReading fed = record { count = rw done opened.reading.count; opened = leaves } in
    rw (settled-open fed step, same, (wants-reads s.stage s.outgoing opened.wanted).0) still

pub responded-more : {A : Type 0} (answers : A → List ℕ → Said → A → Type 0) (s : SessionState) (old fed : Course) → IsOpened s old → (piece : List ℕ) (taken : ℕ) (stage : Stage) (out : List ℕ) (now : A) →
    stage ≡ s.stage → out ≡ s.outgoing → Feeds old.progress piece taken fed.progress → fed.done ≡ old.done → step_of fed.progress ≡ None →
    (read written : List ℕ) (first : A) → HasResponded answers read first written s now → HasRespondedAt stage answers (so_far (read ++ take taken piece) first (written ++ out)) (settled fed) now
responded-more answers s old fed opened piece taken stage out now stages outs feeds done step read written first responded =
    let (reads, quiet) = wants-reads s.stage s.outgoing opened.wanted in
    let come = reading-came answers s old opened read written first now responded in
    let all : take taken piece ≡ piece = take_all taken piece (omega (arith, feeds-all old.progress fed.progress piece taken opened.reading.opened feeds step)) in
    let (leaves, further) = more-came answers REQUESTS (requests_left old) read written piece first now old.progress fed.progress taken opened.reading.opened feeds step come in
    let nothing : written ++ out ≡ written = ap (λ l. written ++ l) (outs ∙ quiet) ∙ append-nil written in
    let counted : HasCome answers REQUESTS (so_far (read ++ piece) first written) (rest_of_course fed now) =
    subst (λ (d : ℕ). HasCome answers REQUESTS (so_far (read ++ piece) first written) (rest_by (REQUESTS - d) (came_of fed.progress) now)) (sym done) further in
    rw (settled-open fed step, stages, reads, all, nothing) counted

-- the queries that the answerer got
reply-queries : {A : Type 0} (answers : A → List ℕ → Said → A → Type 0) (closing : Bool) (meaning : Meaning) (old : A) (text : List ℕ) (new : A) → IsReply answers closing meaning old text new →
    (queries : List QueryOutcome) × HasAsked answers old queries new × ((later : List QueryOutcome) → IsReply says_as_listed closing meaning (queries ++ later) text later)
reply-queries answers closing Nothing old text new (e, same) = ([], inl (refl, same), λ later. (e, refl))
reply-queries answers closing (Refused refusal) old text new (e, same) = ([], inl (refl, same), λ later. (e, refl))
reply-queries answers closing (Asks query) old text new (said, answer, e) =
    (record { query = query; said = said } ∷ [], inr (record { query = query; said = said }, refl, answer), λ later. (said, refl, e))

pub replied-queries : {A : Type 0} (answers : A → List ℕ → Said → A → Type 0) (piece : List ℕ) (taken : ℕ) (old fed : Course) (now between : A) (reply : List ℕ) → HasReplied answers piece taken old fed now reply between →
    (queries : List QueryOutcome) × HasAsked answers now queries between × ((later : List QueryOutcome) → HasReplied says_as_listed piece taken old fed (queries ++ later) reply later)
replied-queries answers piece taken old fed now between reply r =
    let (queries, asked, replied) = reply-queries answers (is_closing fed) (decision_meaning r.decision (target_of fed.progress)) now reply between r.replies in (
      queries,
      asked,
      λ later. record {
        decision = r.decision;
        reading = r.reading;
        feeds = r.feeds;
        done = r.done;
        step = r.step;
        replies = replied later;
      },
    )

-- each decision has a response
reply-some : {A : Type 0} (answers : A → List ℕ → Said → A → Type 0) (closing : Bool) (d : Decision) (target : List ℕ) (old : A) (text : List ℕ) (new : A) → IsReply answers closing (decision_meaning d target) old text new → text ≡ [] → ⊥
unfolding body_text refusal_lines busy_lines
reply-some answers closing decision.Ask target old text new (Ok answer, _, e) nothing = absurd (cc)
reply-some answers closing decision.Ask target old text new (Err busy, _, e) nothing = absurd (cc)
reply-some answers closing (decision.Refused BadRequest) target old text new (e, _) nothing = absurd (cc)
reply-some answers closing (decision.Refused NotFound) target old text new (e, _) nothing = absurd (cc)
reply-some answers closing (decision.Refused MethodNotAllowed) target old text new (e, _) nothing = absurd (cc)

-- so the session takes no further bytes then
pub replied-some : {A : Type 0} (answers : A → List ℕ → Said → A → Type 0) (piece : List ℕ) (taken : ℕ) (old fed : Course) (now between : A) (reply : List ℕ) → HasReplied answers piece taken old fed now reply between →
    (stage : Stage) → (is_reading stage && (length reply == 0)) ≡ true → ⊥
replied-some answers piece taken old fed now between reply r stage wanted =
    let (reads, quiet) = wants-reads stage reply wanted in
    reply-some answers (is_closing fed) r.decision (target_of fed.progress) now reply between r.replies quiet

-- the response at the end of a stream
pub end-said : {A : Type 0} (answers : A → List ℕ → Said → A → Type 0) (old : Course) (q : Progress) (d : Decision) (now : A) → IsReading old → Ends old.progress q → step_of q ≡ Some d →
    IsExchange answers (requests_left old) (came_of old.progress) now (refusal_text BadRequest true) now
end-said answers old q d now reading ends step =
    let n = REQUESTS - (old.done + 1) in
    let left : requests_left old ≡ suc n = omega (arith, reading.count) in
    subst (λ (m : ℕ). IsExchange answers m (came_of old.progress) now (refusal_text BadRequest true) now) (sym left) (go answers n old.progress q d now reading.opened ends step)
  where
    go : {A : Type 0} (answers : A → List ℕ → Said → A → Type 0) (n : ℕ) (p q : Progress) (d : Decision) (now : A) → IsOpen p → Ends p q → step_of q ≡ Some d →
        IsExchange answers (suc n) (came_of p) now (refusal_text BadRequest true) now
    go answers n (Open []) q d now opened ends step = absurd (let e : step_of q ≡ None = ap step_of ends.1 in cc)
    go answers n (Open (byte ∷ bytes)) q d now opened ends step =
        let same : d ≡ decision.Refused BadRequest = let e : step_of q ≡ Some (decision.Refused BadRequest) = ap step_of ends.1 in cc in
        let replies : IsReply answers (ends_by true q) (decision_meaning d (target_of q)) now (refusal_text BadRequest true) now =
        subst (λ (x : Progress). IsReply answers (ends_by true x) (decision_meaning d (target_of x)) now (refusal_text BadRequest true) now) (sym ends.1)
        (subst (λ (x : Decision). IsReply answers true (decision_meaning x []) now (refusal_text BadRequest true) now) (sym same) (refl, refl)) in
        (end-replied answers n (Open (byte ∷ bytes)) q d true now now (refusal_text BadRequest true) opened ends step replies).0
    go answers n (Decided closes decided target) q d now opened ends step = absurd opened

pub end-silent : {A : Type 0} (answers : A → List ℕ → Said → A → Type 0) (old : Course) (q : Progress) (now : A) → IsReading old → Ends old.progress q → step_of q ≡ None →
    IsExchange answers (requests_left old) (came_of old.progress) now [] now
end-silent answers old q now reading ends step =
    let left : requests_left old ≡ suc (REQUESTS - (old.done + 1)) = omega (arith, reading.count) in
    subst (λ (m : ℕ). IsExchange answers m (came_of old.progress) now [] now) (sym left) (end-nothing answers (REQUESTS - (old.done + 1)) old.progress q now reading.opened ends step)

-- what holds of a session whose stream ended
pub responded-ended : (s : SessionState) (old new : Course) → IsOpened s old → (text : List ℕ) → ((later : List QueryOutcome) → IsExchange says_as_listed (requests_left old) (came_of old.progress) later text later) →
    (read written : List ℕ) (queries : List QueryOutcome) → HasRespondedWith read queries written s → (later : List QueryOutcome) → HasRespondedAt Ended says_as_listed (so_far read (queries ++ later) (written ++ text)) new later
responded-ended s old new opened text ends read written queries responded later =
    let come = reading-came says_as_listed s old opened read written (queries ++ later) later (responded later) in
    come-ended (IsExchange says_as_listed) REQUESTS (requests_left old) read (came_of old.progress) written text (queries ++ later) later later come.answered (ends later)

-- bytes without a head have no target
pub end-target : (p q : Progress) → IsOpen p → Ends p q → IsTargetOf (came_of p) (target_of q)
end-target (Open []) q opened ends = inr (opened.0, ap target_of ends.1)
end-target (Open (byte ∷ bytes)) q opened ends = inr (opened.0, ap target_of ends.1)
end-target (Decided closes decided target) q opened ends = absurd opened

-- each response has the status of its outcome
pub has-status : (said : Outcome) (closing : Bool) → HasStatus (response said closing) (outcome_status said)
unfolding digits body_text refusal_lines busy_lines
has-status (Answered answer) closing =
    (codes " OK\r\nContent-Type: " ++ (mime_text answer.mime ++ (codes "\r\nContent-Length: " ++ (decimal (length answer.body) ++ (codes "\r\n" ++ (head_end closing ++ answer.body))))), refl)
has-status (outcome.Refused BadRequest) closing = (codes " Bad Request\r\nContent-Length: 0\r\n" ++ head_end closing, refl)
has-status (outcome.Refused NotFound) closing = (codes " Not Found\r\nContent-Length: 0\r\n" ++ head_end closing, refl)
has-status (outcome.Refused MethodNotAllowed) closing = (codes " Method Not Allowed\r\nAllow: GET\r\nContent-Length: 0\r\n" ++ head_end closing, refl)
has-status outcome.Busy closing = (codes " Service Unavailable\r\nContent-Length: 0\r\n" ++ head_end closing, refl)

-- the laws of sessions
pub law-starts : HasRespondedWith [] [] [] new_session
law-starts later = come-first says_as_listed REQUESTS [] later

pub law-done : (s : SessionState) (read written : List ℕ) (queries : List QueryOutcome) → is_done s ≡ true → HasRespondedWith read queries written s → IsExchange says_as_listed REQUESTS read queries written []
law-done s read written queries done responded =
    subst (λ (h : List QueryOutcome). IsExchange says_as_listed REQUESTS read h written []) (append-nil queries) (go s.stage s.outgoing s.course done (responded []))
  where
    go : (stage : Stage) (out : List ℕ) (course : Course) → (not (is_reading stage) && (length out == 0)) ≡ true → HasRespondedAt stage says_as_listed (so_far read (queries ++ []) (written ++ out)) course [] → IsExchange says_as_listed REQUESTS read (queries ++ []) written []
    go Reading out course e at = absurd (cc)
    go Closed [] course e at =
        subst (λ (l : List ℕ). IsExchange says_as_listed REQUESTS read (queries ++ []) l []) (append-nil written)
        (subst (λ (l : List ℕ). IsExchange says_as_listed REQUESTS l (queries ++ []) (written ++ []) []) (append-nil read) (at []))
    go Closed (x ∷ out) course e at = absurd (let f : (length (x ∷ out) == 0) ≡ false = ne_eqb (length (x ∷ out)) 0 (λ z. absurd (omega (arith, z))) in cc)
    go Ended [] course e at = subst (λ (l : List ℕ). IsExchange says_as_listed REQUESTS read (queries ++ []) l []) (append-nil written) at
    go Ended (x ∷ out) course e at = absurd (let f : (length (x ∷ out) == 0) ≡ false = ne_eqb (length (x ∷ out)) 0 (λ z. absurd (omega (arith, z))) in cc)

pub law-begun : (s : SessionState) (read written more : List ℕ) (queries : List QueryOutcome) → is_reading s.stage ≡ true → HasRespondedWith read queries written s → IsBegun says_as_listed REQUESTS (read ++ more) queries (written ++ s.outgoing) []
law-begun s read written more queries reads responded =
    subst (λ (h : List QueryOutcome). IsBegun says_as_listed REQUESTS (read ++ more) h (written ++ s.outgoing) []) (append-nil queries) (go s.stage s.course reads (responded []))
  where
    go : (stage : Stage) (course : Course) → is_reading stage ≡ true → HasRespondedAt stage says_as_listed (so_far read (queries ++ []) (written ++ s.outgoing)) course [] → IsBegun says_as_listed REQUESTS (read ++ more) (queries ++ []) (written ++ s.outgoing) []
    go Reading course e at = come-begun says_as_listed REQUESTS (requests_left course) read (came_of course.progress) (written ++ s.outgoing) (queries ++ []) [] at more
    go Closed course e at = absurd (cc)
    go Ended course e at = absurd (cc)

pub law-closed : (s : SessionState) (read written more : List ℕ) (queries : List QueryOutcome) → s.stage ≡ Closed → HasRespondedWith read queries written s → IsExchange says_as_listed REQUESTS (read ++ more) queries (written ++ s.outgoing) []
law-closed s read written more queries closed responded =
    let at : HasRespondedAt Closed says_as_listed (so_far read (queries ++ []) (written ++ s.outgoing)) s.course [] =
    subst (λ (t : Stage). HasRespondedAt t says_as_listed (so_far read (queries ++ []) (written ++ s.outgoing)) s.course []) closed (responded []) in
    subst (λ (h : List QueryOutcome). IsExchange says_as_listed REQUESTS (read ++ more) h (written ++ s.outgoing) []) (append-nil queries) (at more)
