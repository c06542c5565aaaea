-- Texts that lie one after the other: a further one, and the one of an index.
use Rattle.std.proofs.Common.{◌≡◌, ℕ, zero, suc, ◌+◌, ◌-◌, ◌<◌, ◌≤◌, List, [], ◌∷◌, ◌++◌, length, drop, get_or, Some, None, refl, sym, ap, arith, ⊎_elim}
use Rattle.std.proofs.Math.Seq.{take-length}
use Rattle.std.proofs.lemmas.Bool.{cases_lt}
use Rattle.std.proofs.lemmas.List.{drop-append-le, get_or_append_left, length-append, length-drop, take-append-le}
use Rattle.std.proofs.lemmas.Option.{slice_get_past}
use Rattle.std.proofs.lemmas.Str.{IsCharBoundary-at_seam, IsCharBoundary-end}
use Rattle.std.specs.List.{slice_get, slice_range}
use Rattle.std.specs.Str.{IsCharBoundary, IsUtf8}
use Rattle.mapdefs.specs.Texts.{AreEndsFrom, texts_from}

-- a border between characters stays one where a text follows
boundary-more : (bytes text : List ℕ) (end : ℕ) → IsUtf8 text → IsCharBoundary bytes end → IsCharBoundary (bytes ++ text) end
boundary-more bytes text end utf8 b = ⊎_elim
    (λ (lt : end < length bytes). (omega (arith, lt, length-append bytes text), λ _. rw (get_or_append_left bytes text 0 end lt) (b.1 lt)))
    (λ (ge : length bytes ≤ end).
    let same : end ≡ length bytes = omega (arith, ge, b.0) in
    rw same (IsCharBoundary-at_seam (bytes ++ text) bytes text refl utf8))
    (cases_lt end (length bytes))

-- what lies within the bytes is the same where a text follows
range-within : (bytes text : List ℕ) (start end : ℕ) → start ≤ end → end ≤ length bytes → slice_range (bytes ++ text) start end ≡ slice_range bytes start end
range-within bytes text start end rises within =
    let inside : end - start ≤ length (drop start bytes) = omega (arith, rises, within, length-drop start bytes) in
    rw (drop-append-le start bytes text (omega (arith, rises, within))) (take-append-le (end - start) (drop start bytes) text inside)

-- and what follows is the text
range-behind : (bytes text : List ℕ) → slice_range (bytes ++ text) (length bytes) (length bytes + length text) ≡ text
range-behind bytes text =
    let rest : length bytes + length text - length bytes ≡ length text = omega arith in
    rw (rest, behind bytes) (take-length text)
  where
    behind : (bytes : List ℕ) → drop (length bytes) (bytes ++ text) ≡ text
    behind [] = refl
    behind (b ∷ bytes) = behind bytes

pub ends-more : (bytes text : List ℕ) (start : ℕ) (ends : List ℕ) → IsUtf8 text → AreEndsFrom bytes start ends →
    AreEndsFrom (bytes ++ text) start (ends ++ (length bytes + length text) ∷ [])
ends-more bytes text start [] utf8 h = (
  omega (arith, h),
  rw (← length-append bytes text) (IsCharBoundary-end (bytes ++ text)),
  sym (length-append bytes text),
)
ends-more bytes text start (end ∷ ends) utf8 h = (h.0, boundary-more bytes text end utf8 h.1, ends-more bytes text end ends utf8 h.2)

pub texts-more : (bytes text : List ℕ) (start : ℕ) (ends : List ℕ) → AreEndsFrom bytes start ends →
    texts_from (bytes ++ text) start (ends ++ (length bytes + length text) ∷ []) ≡ texts_from bytes start ends ++ text ∷ []
texts-more bytes text start [] h = rw h (ap (λ (t : List ℕ). t ∷ []) (range-behind bytes text))
texts-more bytes text start (end ∷ ends) h =
    rw (range-within bytes text start end h.0 h.1.0, texts-more bytes text end ends h.2) refl

pub texts-length : (bytes : List ℕ) (start : ℕ) (ends : List ℕ) → length (texts_from bytes start ends) ≡ length ends
texts-length bytes start [] = refl
texts-length bytes start (end ∷ ends) = ap suc (texts-length bytes end ends)

pub text-at : (bytes : List ℕ) (start : ℕ) (ends : List ℕ) (k : ℕ) → k < length ends →
    slice_get (texts_from bytes start ends) k ≡ Some (slice_range bytes (get_or (start ∷ ends) k 0) (get_or ends k 0))
text-at bytes start [] k h = absurd (omega (arith, h))
text-at bytes start (end ∷ ends) zero h = refl
text-at bytes start (end ∷ ends) (suc k) h = text-at bytes end ends k (omega (arith, h))

pub text-past : (bytes : List ℕ) (start : ℕ) (ends : List ℕ) (k : ℕ) → length ends ≤ k → slice_get (texts_from bytes start ends) k ≡ None
text-past bytes start ends k h = slice_get_past (texts_from bytes start ends) k (omega (arith, h, texts-length bytes start ends))

-- each text ends between two characters, and not before it begins
pub end-at : (bytes : List ℕ) (start : ℕ) (ends : List ℕ) (k : ℕ) → k < length ends → AreEndsFrom bytes start ends →
    (get_or (start ∷ ends) k 0 ≤ get_or ends k 0) × IsCharBoundary bytes (get_or ends k 0)
end-at bytes start [] k h are = absurd (omega (arith, h))
end-at bytes start (end ∷ ends) zero h are = (are.0, are.1)
end-at bytes start (end ∷ ends) (suc k) h are = end-at bytes end ends k (omega (arith, h)) are.2

-- each but the first begins where the one before it ends
pub start-at : (bytes ends : List ℕ) (k : ℕ) → k < length ends → AreEndsFrom bytes 0 ends → 0 < get_or (0 ∷ ends) k 0 → IsCharBoundary bytes (get_or (0 ∷ ends) k 0)
start-at bytes ends zero h are positive = absurd (omega (arith, positive))
start-at bytes ends (suc k) h are positive = (end-at bytes 0 ends k (omega (arith, h)) are).1
