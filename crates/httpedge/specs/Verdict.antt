-- What a verdict on some bytes means for the stream that they begin (RFC 9112; docs/WMS.md,
-- "HTTP").
use Rattle.std.specs.Prelude.{◌≡◌, ◌<◌, ◌≤◌, ℕ, List, [], length, take, Bool, ◌||◌, Option, None, Some}
use Rattle.httparse.specs.Grammar.{RequestHead}
use Rattle.httparse.specs.Spans.{span_bytes, IsWithin}
use Rattle.httpedge.specs.Head.{HasHead, HasNoHead, IsTargetOf}
use Rattle.httpedge.specs.Meaning.{Meaning, decision_meaning}
use Rattle.httpedge.specs.Turn.{AlwaysTurns}
use Rattle.httpedge.specs.declared.decision.Decision.{Decision}
use Rattle.httpedge.specs.declared.verdict.Judged.{Judged}

-- some bytes decide a turn, also where it is the last; a head that they begin with is all of them
pub record Decides (bytes : List ℕ) (closes : Bool) (meaning : Meaning) : Type 0 where
  pub turns : (is_last : Bool) → AlwaysTurns is_last bytes (closes || is_last) meaning
  pub whole : (head : RequestHead) (has : HasHead bytes head) → has.rest ≡ []

-- the first bytes decide, their target is found, and no shorter prefix has a head
pub record IsDecision (bytes : List ℕ) (judged : Judged) (meaning : Meaning) : Type 0 where
  pub len : judged.len ≤ length bytes
  pub decides : Decides (take judged.len bytes) judged.closes meaning
  pub target : IsTargetOf (take judged.len bytes) (span_bytes bytes judged.target)
  pub shortest : (n : ℕ) → n ≤ length bytes → HasNoHead (take n bytes) → n ≤ judged.len

-- the bytes have no head and may get one, or the first of them decide
abbrev pub IsJudgedAs : List ℕ → Judged → Option Decision → Type 0
IsJudgedAs bytes judged None = HasNoHead bytes × (length bytes < 16384) × (judged.len ≡ length bytes)
IsJudgedAs bytes judged (Some decision) = IsDecision bytes judged (decision_meaning decision (span_bytes bytes judged.target))

-- the verdict is correct, and the target lies within the bytes that decide
pub record IsJudged (bytes : List ℕ) (judged : Judged) : Type 0 where
  pub target : IsWithin judged.len judged.target
  pub verdict : IsJudgedAs bytes judged judged.decision
