-- What a stream requests (docs/WMS.md, "HTTP").
use Rattle.std.specs.Prelude.{ℕ, List, Bool, Option, None, Some, ◌||◌, ◌==◌, if◌then◌else◌, codes}
use Rattle.std.specs.List.{before_first, after_first}
use Rattle.std.specs.Str.{bytes_eq}
use Rattle.httparse.specs.Grammar.{RequestHead}
use Rattle.httpedge.specs.declared.decision.Decision.{Decision}
use Rattle.httpedge.specs.declared.decision.Decision.TheVariants as decision
use Rattle.httpedge.specs.declared.refusal.Refusal.{Refusal}
use Rattle.httpedge.specs.declared.refusal.Refusal.TheVariants.{NotFound, MethodNotAllowed}

-- nothing, a refusal, or a query for the answerer
pub data Meaning : Type 0 where
  Nothing : Meaning
  Refused : Refusal → Meaning
  Asks : List ℕ → Meaning

-- the byte that ends the path of a target
abbrev pub is_question_mark : ℕ → Bool
is_question_mark byte = byte == 63

-- the paths that are served
abbrev pub is_served : List ℕ → Bool
is_served path = bytes_eq path (codes "/") || bytes_eq path (codes "/wms")

-- the path of a target goes up to the first question mark, and the query is after it
unfoldable pub target_meaning : List ℕ → Meaning
target_meaning target =
    if is_served (before_first is_question_mark target) then Asks (after_first is_question_mark target) else Refused NotFound

-- a method other than GET is refused before the path is looked at
abbrev pub request_meaning : List ℕ → List ℕ → Meaning
request_meaning method target = if bytes_eq method (codes "GET") then target_meaning target else Refused MethodNotAllowed

-- what a head requests
abbrev pub head_meaning : RequestHead → Meaning
head_meaning head = request_meaning head.method head.target

-- the meaning of a decision, by the target of its head
abbrev pub decision_meaning : Decision → List ℕ → Meaning
decision_meaning decision.Ask target = Asks (after_first is_question_mark target)
decision_meaning (decision.Refused refusal) target = Refused refusal

-- the meaning of a decision, if there is one
abbrev pub meaning_of : Option Decision → List ℕ → Meaning
meaning_of None target = Nothing
meaning_of (Some decided) target = decision_meaning decided target
