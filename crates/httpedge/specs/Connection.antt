-- How far a connection has come, by the bytes that came since the last forgotten head (docs/WMS.md, "HTTP").
use Rattle.std.specs.Prelude.{◌≡◌, ℕ, ◌+◌, ◌<◌, ◌≤◌, List, [], ◌∷◌, ◌++◌, length, take, Bool, true, false, not, ◌&&◌, ◌||◌, ◌==◌, Option, None, Some, if◌then◌else◌}
use Rattle.httparse.specs.Spans.{span_bytes}
use Rattle.httpedge.specs.Head.{HasNoHead, IsTargetOf}
use Rattle.httpedge.specs.Meaning.{decision_meaning, meaning_of}
use Rattle.httpedge.specs.Turn.{IsTurn, Last}
use Rattle.httpedge.specs.Verdict.{Decides}
use Rattle.httpedge.specs.declared.conn.TheConstants.{REQUESTS}
use Rattle.httpedge.specs.declared.decision.Decision.{Decision}
use Rattle.httpedge.specs.declared.decision.Decision.TheVariants as decision
use Rattle.httpedge.specs.declared.received.Received.{Received}
use Rattle.httpedge.specs.declared.refusal.Refusal.TheVariants.{BadRequest}

-- these bytes came and nothing is decided; or there is a decision: whether it closes the connection, what it is, and the
-- target of its head
pub data Progress : Type 0 where
  Open : List ℕ → Progress
  Decided : Bool → Decision → List ℕ → Progress

-- the received bytes as progress
abbrev pub progress_by : Option Decision → Bool → List ℕ → List ℕ → Progress
progress_by None closes target bytes = Open bytes
progress_by (Some decided) closes target bytes = Decided closes decided target

abbrev pub progress : Received → Progress
progress received = progress_by received.decision received.closes (span_bytes received.bytes.items received.target) received.bytes.items

-- there is a decision
abbrev pub is_decided : Progress → Bool
is_decided (Open came) = false
is_decided (Decided closes decided target) = true

-- what is decided, if anything is
abbrev pub step_of : Progress → Option Decision
step_of (Open came) = None
step_of (Decided closes decided target) = Some decided

-- the target of the head that decided
abbrev pub target_of : Progress → List ℕ
target_of (Open came) = []
target_of (Decided closes decided target) = target

-- bytes of a head came that isn't whole yet
abbrev pub has_begun : Progress → Bool
has_begun (Open came) = not (length came == 0)
has_begun (Decided closes decided target) = false

-- the bytes begin with no head, and are fewer than a head may have
abbrev pub LeavesOpen : List ℕ → Type 0
LeavesOpen came = HasNoHead came × (length came < 16384)

-- these bytes came: they have no head yet and may get one, or they decide
abbrev pub Comes : List ℕ → Progress → Type 0
Comes came (Open bytes) = (bytes ≡ came) × LeavesOpen came
Comes came (Decided closes decided target) = Decides came closes (decision_meaning decided target) × IsTargetOf came target

-- the first bytes of a piece were taken: all of them, or those that decide
pub record Takes (came piece : List ℕ) (taken : ℕ) (new : Progress) : Type 0 where
  pub comes : Comes (came ++ take taken piece) new
  pub bound : taken ≤ length piece
  pub cut : taken < length piece → is_decided new ≡ true

-- a further piece came. Where there is a decision, nothing of it is taken
abbrev pub Feeds : Progress → List ℕ → ℕ → Progress → Type 0
Feeds (Open came) piece taken new = Takes came piece taken new
Feeds (Decided closes decided target) piece taken new = (taken ≡ 0) × (new ≡ Decided closes decided target)

-- the progress of a connection at the end of its stream: bytes without a head are refused; where nothing came nothing is
-- decided
abbrev pub ended : Progress → Progress
ended (Open []) = Open []
ended (Open (byte ∷ bytes)) = Decided true (decision.Refused BadRequest) []
ended (Decided closes decided target) = Decided closes decided target

-- the stream ended: the bytes that came are the last, and they mean this; a decision that was there stays
abbrev pub Ends : Progress → Progress → Type 0
Ends (Open came) new = ((is_last : Bool) → IsTurn is_last came (Last (meaning_of (step_of new) (target_of new)))) × (new ≡ ended (Open came))
Ends (Decided closes decided target) new = new ≡ Decided closes decided target

-- how many heads were forgotten, and the progress of the next one
pub record Course : Type 0 where
  pub done : ℕ
  pub progress : Progress

-- a decision ends the connection: by its head, or as the last
abbrev pub ends_by : Bool → Progress → Bool
ends_by is_last (Open came) = false
ends_by is_last (Decided closes decided target) = closes || is_last

-- there is a decision that ends the connection
abbrev pub is_closing : Course → Bool
is_closing course = ends_by (course.done + 1 == REQUESTS) course.progress

-- there is a decision that doesn't end the connection
abbrev pub goes_on : Course → Bool
goes_on course = is_decided course.progress && not (is_closing course)

-- the head of the decision is forgotten
abbrev pub forgotten : Course → Course
forgotten course = record { done = course.done + 1; progress = Open [] }

-- the head of a decision that doesn't end the connection is forgotten; the others stay
abbrev pub settled : Course → Course
settled course = if goes_on course then forgotten course else course
