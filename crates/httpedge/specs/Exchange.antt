-- The bytes that answer a whole stream (docs/WMS.md, "HTTP").
use Rattle.std.specs.Prelude.{◌≡◌, ◌⊎◌, ℕ, ◌+◌, ◌≤◌, List, [], ◌∷◌, ◌++◌, length, Result, Ok, Err, Bool, true, false, ◌==◌, All, suc, zero}
use Rattle.std.specs.List.{flat_map, concat}
use Rattle.httparse.specs.Grammar.{RequestHead, print_request, IsRequestHead}
use Rattle.httpedge.specs.Fields.{announces_body, closes}
use Rattle.httpedge.specs.Meaning.{Meaning, Nothing, Refused, Asks, head_meaning}
use Rattle.httpedge.specs.Response.{refusal_text, busy_text, answer_text}
use Rattle.httpedge.specs.Verdict.{Decides}
use Rattle.httpedge.specs.Turn.{Turn, Last, Further, IsTurn}
use Rattle.answers.specs.declared.answer.Answer.{Answer}
use Rattle.answers.specs.declared.asks.Busy.{Busy}
use Rattle.httpedge.specs.declared.conn.TheConstants.{REQUESTS}

-- the outcome of a query: an answer, or that the server is busy
abbrev pub Said : Type 0
Said = Result Answer Busy

abbrev pub said_text : Said → Bool → List ℕ
said_text (Ok answer) closing = answer_text answer closing
said_text (Err busy) closing = busy_text closing

-- the bytes that answer a meaning. `answers` relates an answerer before a call, a query, its outcome, and the answerer
-- after the call; the answerer is called for a query only
abbrev pub IsReply : {A : Type 0} → (A → List ℕ → Said → A → Type 0) → Bool → Meaning → A → List ℕ → A → Type 0
IsReply answers closing Nothing old text new = (text ≡ []) × (new ≡ old)
IsReply answers closing (Refused refusal) old text new = (text ≡ refusal_text refusal closing) × (new ≡ old)
IsReply answers closing (Asks query) old text new = (said : Said) × answers old query said new × (text ≡ said_text said closing)

-- the bytes that answer a turn: those of its meaning, and then, unless it ends the connection, those that `next` gives for
-- the bytes after it
abbrev pub Follows : {A : Type 0} → (A → List ℕ → Said → A → Type 0) → (List ℕ → A → List ℕ → A → Type 0) → Turn → A → List ℕ → A → Type 0
Follows answers next (Last meaning) old text new = IsReply answers true meaning old text new
Follows {A} answers next (Further meaning after) old text new =
    (first : List ℕ) × (rest : List ℕ) × (between : A)
    × IsReply answers false meaning old first between × next after between rest new × (text ≡ first ++ rest)

-- these bytes answer a stream of which at most so many requests are answered
unfoldable pub IsExchange : {A : Type 0} → (A → List ℕ → Said → A → Type 0) → ℕ → List ℕ → A → List ℕ → A → Type 0
IsExchange answers zero stream old text new = (text ≡ []) × (new ≡ old)
IsExchange answers (suc n) stream old text new = (turn : Turn) × IsTurn (n == 0) stream turn × Follows answers (IsExchange answers n) turn old text new

-- these bytes answer the first requests of a stream, perhaps not all of them
unfoldable pub IsBegun : {A : Type 0} → (A → List ℕ → Said → A → Type 0) → ℕ → List ℕ → A → List ℕ → A → Type 0
IsBegun answers zero stream old text new = (text ≡ []) × (new ≡ old)
IsBegun answers (suc n) stream old text new =
    ((text ≡ []) × (new ≡ old))
    ⊎ ((turn : Turn) × IsTurn (n == 0) stream turn × Follows answers (IsBegun answers n) turn old text new)

-- an answerer has a list of outcomes, and gives the next of them
abbrev pub says_next : List Said → List ℕ → Said → List Said → Type 0
says_next old query said new = old ≡ said ∷ new

-- a stream whose queries have these outcomes, one for each in order, is answered by these bytes
abbrev pub IsAnswered : List ℕ → List Said → List ℕ → Type 0
IsAnswered stream outcomes text = IsExchange says_next REQUESTS stream outcomes text []

-- the law that a stream and outcomes have one text
abbrev pub ExchangeIsOne : Type 0
ExchangeIsOne = (stream : List ℕ) (outcomes : List Said) (a b : List ℕ) → IsAnswered stream outcomes a → IsAnswered stream outcomes b → a ≡ b

-- a head within the limits that doesn't end the connection
pub record IsFurther (head : RequestHead) : Type 0 where
  pub is_head : IsRequestHead head
  pub bytes : length (print_request head) ≤ 16384
  pub fields : length head.fields ≤ 64
  pub no_body : announces_body head ≡ false
  pub stays : closes head ≡ false

-- each of some heads is a stream of its own, which is answered by a text of its own
abbrev pub AreAnsweredAlone : List RequestHead → List (List Said) → List (List ℕ) → Type 0
AreAnsweredAlone [] [] [] = Unit {0}
AreAnsweredAlone (head ∷ heads) (outcomes ∷ others) (text ∷ texts) = IsAnswered (print_request head) outcomes text × AreAnsweredAlone heads others texts
AreAnsweredAlone heads outcomes texts = ⊥

-- the law that up to 999 whole heads, none of which closes or announces a body, are answered one after the other by the
-- bytes that each gets alone
abbrev pub HeadsAreAnsweredAlone : Type 0
HeadsAreAnsweredAlone =
    (heads : List RequestHead) (outcomes : List (List Said)) (texts : List (List ℕ)) → length heads ≤ 999 → All IsFurther heads
    → AreAnsweredAlone heads outcomes texts → IsAnswered (flat_map print_request heads) (flat_map (λ (said : List Said). said) outcomes) (concat texts)

-- the bytes that answer each of some heads, one after the other
abbrev pub AreReplies : {A : Type 0} → (A → List ℕ → Said → A → Type 0) → List RequestHead → A → List ℕ → A → Type 0
AreReplies answers [] old text new = (text ≡ []) × (new ≡ old)
AreReplies {A} answers (head ∷ heads) old text new =
    (first : List ℕ) × (rest : List ℕ) × (between : A)
    × IsReply answers false (head_meaning head) old first between × AreReplies answers heads between rest new × (text ≡ first ++ rest)

-- the law that heads which don't end the connection are answered as each alone, without the Connection line, and that the
-- rest is answered after them
abbrev pub HeadsAnswerInTurn : Type 0
HeadsAnswerInTurn =
    (heads : List RequestHead) (n : ℕ) (rest : List ℕ) (old between new : List Said) (front text : List ℕ) → All IsFurther heads
    → AreReplies says_next heads old front between → IsExchange says_next (suc n) rest between text new
    → IsExchange says_next (length heads + suc n) (flat_map print_request heads ++ rest) old (front ++ text) new

-- the law that a text which was begun is a prefix of the whole text
abbrev pub BegunIsPrefix : Type 0
BegunIsPrefix =
    (stream : List ℕ) (outcomes left : List Said) (begun all : List ℕ)
    → IsBegun says_next REQUESTS stream outcomes begun left → IsAnswered stream outcomes all → (more : List ℕ) × (all ≡ begun ++ more)

-- the law of one step: some bytes that decide and go on are answered, and then the bytes after them
abbrev pub StepsAnswer : Type 0
StepsAnswer =
    (n : ℕ) (bytes more : List ℕ) (meaning : Meaning) (old between new : List Said) (first rest : List ℕ)
    → Decides bytes false meaning → (n == 0) ≡ false → IsReply says_next false meaning old first between
    → IsExchange says_next n more between rest new → IsExchange says_next (suc n) (bytes ++ more) old (first ++ rest) new
