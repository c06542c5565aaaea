-- The pixels that lie in the spans of a row.
use Rattle.std.proofs.Common.{◌≡◌, ◌∙◌, ℕ, zero, suc, ◌<◌, ◌≤◌, Bool, false, List, [], ◌∷◌, length, get_or, refl, sym, arith, ⊎_elim}
use Rattle.std.proofs.lemmas.Bool.{and_from, and_left, and_right, cases_lt, le-leb, le-ltb, lt-leb, lt-ltb, or_from, or_left}
use Rattle.std.specs.Prelude.{nat_le, nat_lt}
use Rattle.scanfill.specs.Runs.{AreRunsFrom, has_column, is_in_spans}
use Rattle.scanfill.specs.declared.span.Span.{Span}

-- no run holds a column before the one from which the search starts
spans-early : (test : ℕ → Bool) (from end i : ℕ) (spans : List Span) → AreRunsFrom test from end spans → i < from → is_in_spans spans i ≡ false
spans-early test from end i [] runs h = refl
spans-early test from end i (span ∷ spans) runs h = or_from (has_column span i) (is_in_spans spans i)
    (and_left (nat_le span.from i) (nat_lt i span.to) (lt-leb span.from i (omega (arith, runs.0.begins))))
    (spans-early test span.to end i spans runs.1 (omega (arith, runs.0.begins, runs.0.some)))

-- where the first span doesn't hold a column, one of all holds it where one of the others does
spans-later : (i : ℕ) (span : Span) (spans : List Span) → has_column span i ≡ false → is_in_spans (span ∷ spans) i ≡ is_in_spans spans i
spans-later i span spans h = rw h refl

-- a column lies in one of the runs exactly where it passes
pub spans-test : (test : ℕ → Bool) (from end i : ℕ) (spans : List Span) → AreRunsFrom test from end spans → from ≤ i → i < end → is_in_spans spans i ≡ test i
spans-test test from end i [] runs first last = sym (runs i first last)
spans-test test from end i (span ∷ spans) runs first last = ⊎_elim
    (λ (before : i < span.from).
    spans-later i span spans (and_left (nat_le span.from i) (nat_lt i span.to) (lt-leb span.from i before))
    ∙ (spans-early test span.to end i spans runs.1 (omega (arith, runs.0.some)) ∙ sym (runs.0.before i first before)))
    (λ (begun : span.from ≤ i). ⊎_elim
    (λ (within : i < span.to).
    or_left (has_column span i) (is_in_spans spans i) (and_from (nat_le span.from i) (nat_lt i span.to) (le-leb span.from i begun) (lt-ltb i span.to within))
    ∙ sym (runs.0.inside i begun within))
    (λ (past : span.to ≤ i).
    spans-later i span spans (and_right (nat_le span.from i) (nat_lt i span.to) (le-ltb i span.to past)) ∙ spans-test test span.to end i spans runs.1 past last)
    (cases_lt i span.to))
    (cases_lt i span.from)

-- each run ends where the row does or before
pub spans-within : (test : ℕ → Bool) (from end k : ℕ) (spans : List Span) (d : Span) → AreRunsFrom test from end spans → k < length spans →
    ((get_or spans k d).from ≤ (get_or spans k d).to) × ((get_or spans k d).to ≤ end)
spans-within test from end k [] d runs h = absurd (omega arith)
spans-within test from end zero (span ∷ spans) d runs h = (omega (arith, runs.0.some), runs.0.within)
spans-within test from end (suc k) (span ∷ spans) d runs h = spans-within test span.to end k spans d runs.1 (omega arith)
