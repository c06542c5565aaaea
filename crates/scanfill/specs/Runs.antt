-- The runs of a row (docs/DRAWING.md, "When a pixel belongs to a polygon").
use Rattle.std.specs.Prelude.{◌≡◌, ℕ, ◌≤◌, ◌<◌, Bool, true, false, ◌&&◌, nat_le, nat_lt, List, [], ◌∷◌}
use Rattle.std.specs.List.{list_any}
use Rattle.scanfill.specs.declared.span.Span.{Span}

-- the span is the first longest run of pixels that pass a test, from one column to before another
pub record IsRunFrom (test : ℕ → Bool) (start end : ℕ) (span : Span) : Type 0 where
  pub begins : start ≤ span.from
  pub some : span.from < span.to
  pub within : span.to ≤ end
  pub before : (i : ℕ) → start ≤ i → i < span.from → test i ≡ false
  pub inside : (i : ℕ) → span.from ≤ i → i < span.to → test i ≡ true
  pub after : span.to < end → test span.to ≡ false

-- the spans are the longest runs of pixels that pass, from one column to before another, rising
abbrev pub AreRunsFrom : (ℕ → Bool) → ℕ → ℕ → List Span → Type 0
AreRunsFrom test start end [] = (i : ℕ) → start ≤ i → i < end → test i ≡ false
AreRunsFrom test start end (span ∷ spans) = IsRunFrom test start end span × AreRunsFrom test span.to end spans

-- the span holds the column
abbrev pub has_column : Span → ℕ → Bool
has_column span i = nat_le span.from i && nat_lt i span.to

-- one of the spans holds the column
abbrev pub is_in_spans : List Span → ℕ → Bool
is_in_spans spans i = list_any (λ span. has_column span i) spans

-- the law: a pixel lies in one of the runs exactly where it passes
abbrev pub AreThosePassing : Type 0
AreThosePassing = (test : ℕ → Bool) (end : ℕ) (spans : List Span) → AreRunsFrom test 0 end spans → (i : ℕ) → i < end → is_in_spans spans i ≡ test i

-- the law: a test has one list of longest runs
abbrev pub RunsAreOne : Type 0
RunsAreOne = (test : ℕ → Bool) (start end : ℕ) (a b : List Span) → AreRunsFrom test start end a → AreRunsFrom test start end b → a ≡ b
