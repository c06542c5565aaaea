-- What a piece of bytes does to a session (docs/WMS.md, "HTTP").
use Rattle.std.specs.Prelude.{ℕ, List, ◌++◌}
use Rattle.httpedge.specs.Session.{HasRespondedWith, QueryOutcome, SessionState}

-- with these bytes more, and the outcomes of these queries more, a session has responded to all that came as it had before
abbrev pub RespondsOn : List ℕ → List QueryOutcome → SessionState → SessionState → Type 0
RespondsOn came queries old new =
    (read written : List ℕ) (earlier : List QueryOutcome) → HasRespondedWith read earlier written old
    → HasRespondedWith (read ++ came) (earlier ++ queries) written new
