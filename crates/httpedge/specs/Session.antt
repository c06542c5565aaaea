-- The part of its answers that a session has sent, by the bytes that it was fed (docs/WMS.md, "HTTP").
use Rattle.std.specs.Prelude.{◌≡◌, ◌⊎◌, ℕ, List, [], ◌∷◌, ◌++◌, length, Bool, true, false, not, ◌&&◌, ◌==◌}
use Rattle.httpedge.specs.Connection.{Course, Open}
use Rattle.httpedge.specs.Exchange.{Said, IsExchange}
use Rattle.httpedge.specs.Head.{IsTargetOf}
use Rattle.httpedge.specs.Response.{HasStatus}
use Rattle.httpedge.specs.Serving.{ExchangeSoFar, IsReading, HasCome, rest_of_course}
use Rattle.httpedge.specs.declared.conn.TheConstants.{REQUESTS}
use Rattle.httpedge.specs.declared.stage.Stage.{Stage}
use Rattle.httpedge.specs.declared.stage.Stage.TheVariants.{Reading, Closed, Ended}

-- the progress of its heads, the bytes that are to be sent, and whether heads are read; the target of the request that was answered last, and
-- the status of its response
pub record SessionState : Type 0 where
  pub course : Course
  pub outgoing : List ℕ
  pub stage : Stage
  pub target : List ℕ
  pub status : ℕ

-- heads are read
abbrev pub is_reading : Stage → Bool
is_reading Reading = true
is_reading Closed = false
is_reading Ended = false

-- nothing is to be sent
abbrev pub owes_nothing : SessionState → Bool
owes_nothing state = length state.outgoing == 0

-- the session takes further bytes: nothing is to be sent, and heads are read
abbrev pub wants : SessionState → Bool
wants state = is_reading state.stage && owes_nothing state

-- it has ended, and nothing is to be sent
abbrev pub is_done : SessionState → Bool
is_done state = not (is_reading state.stage) && owes_nothing state

-- after a head that ends the connection, or another one
abbrev pub stage_after : Bool → Stage
stage_after true = Closed
stage_after false = Reading

-- while heads are read, nothing is decided, and a request is left
abbrev pub ReadsOn : Stage → Course → Type 0
ReadsOn Reading course = IsReading course
ReadsOn Closed course = Unit {0}
ReadsOn Ended course = Unit {0}

-- the heads that were read so far are answered: further ones may come; or that is all, whatever follows; or that is all, and nothing follows
abbrev pub HasRespondedAt : {A : Type 0} → Stage → (A → List ℕ → Said → A → Type 0) → ExchangeSoFar A → Course → A → Type 0
HasRespondedAt Reading answers so_far course now = HasCome answers REQUESTS so_far (rest_of_course course now)
HasRespondedAt Closed answers so_far course now = (more : List ℕ) → IsExchange answers REQUESTS (so_far.read ++ more) so_far.first so_far.said now
HasRespondedAt Ended answers so_far course now = IsExchange answers REQUESTS so_far.read so_far.first so_far.said now

-- the bytes `read` were taken, and `written` was sent: `written` and the bytes that are to be sent answer them
abbrev pub HasResponded : {A : Type 0} → (A → List ℕ → Said → A → Type 0) → List ℕ → A → List ℕ → SessionState → A → Type 0
HasResponded answers read first written state now =
    HasRespondedAt state.stage answers (record { read = read; first = first; said = written ++ state.outgoing }) state.course now

-- the response that is to be sent has this status, and the request that it answers, of which these bytes came, this target
abbrev pub HasNamed : List ℕ → SessionState → Type 0
HasNamed came state = owes_nothing state ≡ false → IsTargetOf came state.target × HasStatus state.outgoing state.status

-- a query and its outcome
pub record QueryOutcome : Type 0 where
  pub query : List ℕ
  pub said : Said

-- an answerer has a list of queries with their outcomes, and gives the next of them
abbrev pub says_as_listed : List QueryOutcome → List ℕ → Said → List QueryOutcome → Type 0
says_as_listed old query said new = old ≡ record { query = query; said = said } ∷ new

-- the bytes `read` were taken, these queries of theirs were answered, and `written` was sent: `written` and the bytes that are to be sent answer
-- them. The answerer may answer other queries in between
abbrev pub HasRespondedWith : List ℕ → List QueryOutcome → List ℕ → SessionState → Type 0
HasRespondedWith read queries written state = (later : List QueryOutcome) → HasResponded says_as_listed read (queries ++ later) written state later

-- the answerer wasn't called, or was called once
abbrev pub HasAsked : {A : Type 0} → (A → List ℕ → Said → A → Type 0) → A → List QueryOutcome → A → Type 0
HasAsked answers old queries new =
    ((queries ≡ []) × (new ≡ old)) ⊎ ((one : QueryOutcome) × (queries ≡ one ∷ []) × answers old one.query one.said new)

-- a session to which nothing came
abbrev pub new_session : SessionState
new_session = record { course = record { done = 0; progress = Open [] }; outgoing = []; stage = Reading; target = []; status = 0 }
