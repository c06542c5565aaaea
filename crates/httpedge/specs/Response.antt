-- The bytes of responses (RFC 9112; docs/WMS.md, "HTTP").
use Rattle.std.specs.Prelude.{◌≡◌, ℕ, List, ◌++◌, length, codes, Bool, true, false}
use Rattle.std.specs.Fmt.{decimal}
use Rattle.answers.specs.declared.answer.Answer.{Answer}
use Rattle.operations.specs.Mime.{mime_text}
use Rattle.httpedge.specs.declared.refusal.Refusal.{Refusal}
use Rattle.httpedge.specs.declared.refusal.Refusal.TheVariants.{BadRequest, NotFound, MethodNotAllowed}
use Rattle.httpedge.specs.declared.outcome.Outcome.{Outcome}
use Rattle.httpedge.specs.declared.outcome.Outcome.TheVariants.{Answered, Refused, Busy}

-- the end of a head; the last response of a connection has the line that no further one comes
unfoldable pub head_end : Bool → List ℕ
head_end true = codes "Connection: close\r\n\r\n"
head_end false = codes "\r\n"

-- the lines of a refusal
unfoldable pub refusal_lines : Refusal → List ℕ
refusal_lines BadRequest = codes "HTTP/1.1 400 Bad Request\r\nContent-Length: 0\r\n"
refusal_lines NotFound = codes "HTTP/1.1 404 Not Found\r\nContent-Length: 0\r\n"
refusal_lines MethodNotAllowed = codes "HTTP/1.1 405 Method Not Allowed\r\nAllow: GET\r\nContent-Length: 0\r\n"

-- the lines of the response that the server is busy
unfoldable pub busy_lines : List ℕ
busy_lines = codes "HTTP/1.1 503 Service Unavailable\r\nContent-Length: 0\r\n"

-- a response without a body
abbrev pub refusal_text : Refusal → Bool → List ℕ
refusal_text refusal closing = refusal_lines refusal ++ head_end closing

abbrev pub busy_text : Bool → List ℕ
busy_text closing = busy_lines ++ head_end closing

-- a body under its fixed head: its mime type, and how many bytes it has
unfoldable pub body_text : List ℕ → List ℕ → List ℕ → Bool → List ℕ
body_text mime count body closing =
    codes "HTTP/1.1 200 OK\r\nContent-Type: " ++ (mime ++ (codes "\r\nContent-Length: " ++ (count ++ (codes "\r\n" ++ (head_end closing ++ body)))))

-- an answer under its head
abbrev pub answer_text : Answer → Bool → List ℕ
answer_text answer closing = body_text (mime_text answer.mime) (decimal (length answer.body)) answer.body closing

-- the bytes of a response
abbrev pub response : Outcome → Bool → List ℕ
response (Answered answer) closing = answer_text answer closing
response (Refused refusal) closing = refusal_text refusal closing
response Busy closing = busy_text closing

-- the status number of a refusal
abbrev pub status_of : Refusal → ℕ
status_of BadRequest = 400
status_of NotFound = 404
status_of MethodNotAllowed = 405

-- the first line of a response has this status
abbrev pub HasStatus : List ℕ → ℕ → Type 0
HasStatus text status = (rest : List ℕ) × (text ≡ codes "HTTP/1.1 " ++ (decimal status ++ rest))

-- the status of a response
abbrev pub outcome_status : Outcome → ℕ
outcome_status (Answered answer) = 200
outcome_status (Refused refusal) = status_of refusal
outcome_status Busy = 503
