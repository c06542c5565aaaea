-- How far a connection was served within its stream (docs/WMS.md, "HTTP").
use Rattle.std.specs.Prelude.{ℕ, ◌-◌, ◌*◌, ◌<◌, List, [], ◌++◌, length, Bool, true, false}
use Rattle.httpedge.specs.Connection.{Progress, Open, Decided, Course, LeavesOpen}
use Rattle.httpedge.specs.Exchange.{Said, IsExchange, IsBegun}
use Rattle.httpedge.specs.Reads.{Wants}
use Rattle.httpedge.specs.declared.conn.TheConstants.{REQUESTS}

-- how many requests a connection has left
abbrev pub requests_left : Course → ℕ
requests_left course = REQUESTS - course.done

-- the bytes that came of the next head
abbrev pub came_of : Progress → List ℕ
came_of (Open came) = came
came_of (Decided closes decided target) = []

-- nothing is decided, and the bytes that came may still get a meaning
abbrev pub IsOpen : Progress → Type 0
IsOpen (Open came) = LeavesOpen came
IsOpen (Decided closes decided target) = ⊥

-- the connection needs a further read
pub record IsReading (course : Course) : Type 0 where
  pub count : course.done < REQUESTS
  pub opened : IsOpen course.progress

-- an exchange so far: the bytes that were read, the answerer before them, and the text of its answers
pub record ExchangeSoFar (A : Type 0) : Type 0 where
  pub read : List ℕ
  pub first : A
  pub said : List ℕ

-- what is left of an exchange: how many requests, the bytes that came of the next head, and the answerer now
pub record ExchangeRest (A : Type 0) : Type 0 where
  pub requests : ℕ
  pub came : List ℕ
  pub now : A

-- what is left of a connection with this answerer
abbrev pub rest_of_course : {A : Type 0} → Course → A → ExchangeRest A
rest_of_course course now = record { requests = requests_left course; came = came_of course.progress; now = now }

-- a text that answers the rest, the bytes that came and more, completes the sent text: together they answer all
abbrev pub Leads : {A : Type 0} → (ℕ → List ℕ → A → List ℕ → A → Type 0) → ℕ → ExchangeSoFar A → ExchangeRest A → Type 0
Leads {A} answered n so_far rest =
    (more text : List ℕ) (last : A) → answered rest.requests (rest.came ++ more) rest.now text last
    → answered n (so_far.read ++ more) so_far.first (so_far.said ++ text) last

-- a connection with n requests has come so far, with this rest: the text answers the bytes that were read, but for those of the next head
pub record HasCome {A : Type 0} (answers : A → List ℕ → Said → A → Type 0) (n : ℕ) (so_far : ExchangeSoFar A) (rest : ExchangeRest A) : Type 0 where
  pub answered : Leads (IsExchange answers) n so_far rest
  pub begun : Leads (IsBegun answers) n so_far rest
  pub wanted : (more : List ℕ) → Wants rest.requests (rest.came ++ more) → Wants n (so_far.read ++ more)

-- a piece was served: the connection goes on, or the sent text is all, whatever follows
abbrev pub Serves : {A : Type 0} → Bool → (A → List ℕ → Said → A → Type 0) → ℕ → ExchangeSoFar A → Course → A → Type 0
Serves true answers n so_far course now = IsReading course × HasCome answers n so_far (rest_of_course course now)
Serves false answers n so_far course now = (more : List ℕ) → IsExchange answers n (so_far.read ++ more) so_far.first so_far.said now

-- at most so many reads that give a byte are still needed
abbrev pub missing : Course → ℕ
missing course = 16384 * requests_left course - length (came_of course.progress)
