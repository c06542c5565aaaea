-- The bytes that are taken of a piece: all of it, or up to the end of the head that it completes.
use Rattle.std.proofs.Common.{length-drop, append-nil, eqb-true, suc, [], ◌∷◌, ◌==◌, ◌≡◌, ◌∙◌, inr, true, false, Bool, Option, None, Some, ℕ, ◌+◌, ◌-◌, ◌<◌, ◌≤◌, List, ◌++◌, length, take, drop, min, refl, sym, ap, subst, arith, length-append, length-take, take-append-drop}
use Rattle.std.proofs.lemmas.List.{take_all, take-take, take-append-le, drop-append-le, length-take-le}
use Rattle.std.proofs.Math.Seq.{take-append-add, take-append_seam}
use Rattle.std.specs.List.{slice_range}
use Rattle.httparse.specs.Spans.{IsWithin, span_bytes}
use Rattle.httpedge.specs.Connection.{Decided, progress_by, Takes, Feeds, Ends}
use Rattle.httpedge.specs.declared.decision.Decision.TheVariants as decision
use Rattle.httpedge.specs.declared.refusal.Refusal.TheVariants.{BadRequest}
use Rattle.httpedge.proofs.Heads.{nothing-headless}
use Rattle.httpedge.specs.Head.{HasNoHead}
use Rattle.httpedge.specs.Meaning.{Meaning}
use Rattle.httpedge.specs.Verdict.{IsDecision, IsJudgedAs}
use Rattle.httpedge.specs.declared.decision.Decision.{Decision}
use Rattle.httpedge.specs.declared.verdict.Judged.{Judged}

-- a range within the first bytes is a range of all
pub range-prefix : (bytes : List ℕ) (n start end : ℕ) → start ≤ end → end ≤ n → n ≤ length bytes → slice_range (take n bytes) start end ≡ slice_range bytes start end
range-prefix bytes n start end ordered within bound =
    let long : length (take n bytes) ≡ n = length-take-le n bytes bound in
    let all : take n bytes ++ drop n bytes ≡ bytes = take-append-drop n bytes in
    let at : drop start (take n bytes ++ drop n bytes) ≡ drop start (take n bytes) ++ drop n bytes = drop-append-le start (take n bytes) (drop n bytes) (omega (arith, long, ordered, within)) in
    let rest : length (drop start (take n bytes)) ≡ n - start = omega (arith, length-drop start (take n bytes), long) in
    sym (ap (λ l. take (end - start) (drop start l)) (sym all) ∙ ap (take (end - start)) at ∙ take-append-le (end - start) (drop start (take n bytes)) (drop n bytes) (omega (arith, rest, within)))

-- the first bytes that are judged are the old ones and a prefix of the piece
cut : (old piece prefix all : List ℕ) (count len : ℕ) → prefix ≡ take count piece → count ≤ length piece → all ≡ old ++ prefix → length old ≤ len → len ≤ length all → take len all ≡ old ++ take (len - length old) piece
cut old piece prefix all count len is bound e from to =
    let n : len ≡ length old + (len - length old) = omega arith in
    let size : length all ≡ length old + length prefix = ap length e ∙ length-append old prefix in
    let short : len - length old ≤ count = omega (arith, size, ap length is, length-take count piece, to) in
    rw (e, is) (ap (λ m. take m (old ++ take count piece)) n ∙ take-append-add old (take count piece) (len - length old) ∙ ap (λ l. old ++ l) (take-take (len - length old) count piece short))

-- no prefix decides that is shorter than the bytes that have no head
pub from-old : (old prefix all : List ℕ) (judged : Judged) (meaning : Meaning) → HasNoHead old → all ≡ old ++ prefix → IsDecision all judged meaning → length old ≤ judged.len
from-old old prefix all judged meaning none e decision =
    let size : length all ≡ length old + length prefix = ap length e ∙ length-append old prefix in
    decision.shortest (length old) (omega (arith, size)) (subst HasNoHead (sym (ap (take (length old)) e ∙ take-append_seam old prefix)) none)

pub old-first : (old prefix all : List ℕ) (judged : Judged) (d : Option Decision) → HasNoHead old → all ≡ old ++ prefix → IsJudgedAs all judged d → length old ≤ judged.len
old-first old prefix all judged None none e judges = omega (arith, judges.2, ap length e, length-append old prefix)
old-first old prefix all judged (Some decided) none e judges = from-old old prefix all judged _ none e judges

-- what the prefix of the piece decides
pub taken : (old piece prefix all new : List ℕ) (count : ℕ) (judged : Judged) (d : Option Decision) → length old < 16384 → count ≡ min (length piece) (16384 - length old) → prefix ≡ take count piece →
    all ≡ old ++ prefix → new ≡ take judged.len all → HasNoHead old → IsWithin judged.len judged.target → IsJudgedAs all judged d → Takes old piece (judged.len - length old) (progress_by d judged.closes (span_bytes new judged.target) new)
taken old piece prefix all new count judged None room is part e kept none within judges =
    let size : length all ≡ length old + length prefix = ap length e ∙ length-append old prefix in
    let m : length prefix ≡ min count (length piece) = ap length part ∙ length-take count piece in
    let whole : judged.len - length old ≡ length piece = omega (arith, size, m, is, judges.1, judges.2, room) in
    let all-is : all ≡ old ++ take (judged.len - length old) piece = e ∙ ap (λ l. old ++ l) (part ∙ take_all count piece (omega (arith, whole, size, m, judges.2)) ∙ sym (take_all (judged.len - length old) piece (omega (arith, whole)))) in
    record {
      comes = (kept ∙ take_all judged.len all (omega (arith, judges.2)) ∙ all-is, (subst HasNoHead all-is judges.0, omega (arith, ap length all-is, judges.1)));
      bound = omega (arith, whole);
      cut = λ short. absurd (omega (arith, whole, short));
    }
taken old piece prefix all new count judged (Some decided) room is part e kept none within judges =
    let target = judged.target in
    let from = from-old old prefix all judged _ none e judges in
    let bytes : take judged.len all ≡ old ++ take (judged.len - length old) piece = cut old piece prefix all count judged.len part (omega (arith, is)) e from judges.len in
    let same : span_bytes all target ≡ span_bytes new target = sym (rw kept (range-prefix all judged.len target.start target.end within.0 within.1 judges.len)) in
    record {
      comes = rw (← bytes, ← same) (judges.decides, judges.target);
      bound = omega (arith, is, ap length e, length-append old prefix, ap length part, length-take count piece, judges.len);
      cut = λ short. refl;
    }

-- where nothing is decided, all bytes that came are kept
pub open-all : (all : List ℕ) (judged : Judged) (d : Option Decision) → IsJudgedAs all judged d → d ≡ None → take judged.len all ≡ all
open-all all judged None judges e = take_all judged.len all (omega (arith, judges.2))
open-all all judged (Some decided) judges e = absurd (cc)

pub open-headless : (all : List ℕ) (judged : Judged) (d : Option Decision) → IsJudgedAs all judged d → d ≡ None → HasNoHead all
open-headless all judged None judges e = judges.0
open-headless all judged (Some decided) judges e = absurd (cc)

pub open-below : (all : List ℕ) (judged : Judged) (d : Option Decision) → IsJudgedAs all judged d → d ≡ None → length all < 16384
open-below all judged None judges e = judges.1
open-below all judged (Some decided) judges e = absurd (cc)

pub within-all : (all : List ℕ) (judged : Judged) (d : Option Decision) → IsJudgedAs all judged d → judged.len ≤ length all
within-all all judged None judges = omega (arith, judges.2)
within-all all judged (Some decided) judges = judges.len

-- an empty piece changes nothing
pub empty-feeds : (bytes piece target : List ℕ) (closes : Bool) (d : Option Decision) (empty : Bool) → d ≡ None → empty ≡ (length piece == 0) → empty ≡ true → HasNoHead bytes → length bytes < 16384 →
    Feeds (progress_by d closes target bytes) piece 0 (progress_by d closes target bytes)
empty-feeds bytes [] target closes d empty e is n none below =
    let all : bytes ≡ bytes ++ [] = sym (append-nil bytes) in
    rw e (record { comes = (all, (subst HasNoHead all none, subst (λ (l : List ℕ). length l < 16384) all below)); bound = omega arith; cut = λ short. absurd (omega (arith, short)) })
empty-feeds bytes (p ∷ ps) target closes d empty e is n none below = absurd (omega (arith, eqb-true (suc (length ps)) 0 (sym is ∙ n)))

-- the end of what has no head
pub end-refused : (bytes target : List ℕ) (count : ℕ) (closes : Bool) (d : Option Decision) (empty : Bool) → d ≡ None → count ≡ length bytes → empty ≡ (count == 0) → empty ≡ false →
    HasNoHead bytes → Ends (progress_by d closes target bytes) (Decided true (decision.Refused BadRequest) [])
end-refused [] target count closes d empty is e counts some headless = absurd (cc)
end-refused (byte ∷ bytes) target count closes d empty is e counts some headless = rw is ((λ is-last. inr (headless, refl)), refl)

-- the end of nothing
pub end-kept : (bytes target : List ℕ) (count : ℕ) (closes : Bool) (d : Option Decision) (empty : Bool) → d ≡ None → count ≡ length bytes → empty ≡ (count == 0) → empty ≡ true →
    Ends (progress_by d closes target bytes) (progress_by d closes target bytes)
end-kept [] target count closes d empty is e counts none = rw is ((λ is-last. inr (nothing-headless, refl)), refl)
end-kept (byte ∷ bytes) target count closes d empty is e counts none = absurd (omega (arith, e, eqb-true count 0 (sym counts ∙ none)))
