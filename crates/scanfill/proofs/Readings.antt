-- A row is read from left to right.
use Rattle.std.proofs.Common.{◌≡◌, ◌∙◌, ℕ, ◌<◌, ◌≤◌, Bool, true, false, List, [], ◌∷◌, ◌++◌, append_assoc, append-nil, subst, sym, arith, ⊎_elim}
use Rattle.std.proofs.lemmas.Bool.{cases_lt}
use Rattle.scanfill.specs.Reading.{AllAre, LeadsFrom}
use Rattle.scanfill.specs.Runs.{AreRunsFrom}
use Rattle.scanfill.specs.declared.span.Span.{Span}

-- the runs from a column on are those from an earlier one, where no pixel between passes
pub runs-back : (test : ℕ → Bool) (from at end : ℕ) (spans : List Span) → from ≤ at → AllAre test false from at → AreRunsFrom test at end spans → AreRunsFrom test from end spans
runs-back test from at end [] le none runs = λ i first last. ⊎_elim (λ (lt : i < at). none.each i first lt) (λ (ge : at ≤ i). runs i ge last) (cases_lt i at)
runs-back test from at end (span ∷ spans) le none runs = (
  record {
    begins = omega (arith, runs.0.begins);
    some = runs.0.some;
    within = runs.0.within;
    before = λ i first last. ⊎_elim (λ (lt : i < at). none.each i first lt) (λ (ge : at ≤ i). runs.0.before i ge last) (cases_lt i at);
    inside = runs.0.inside;
    after = runs.0.after;
  },
  runs.1,
)

-- pixels that fail, outside of a run
pub leads-on : (test : ℕ → Bool) (end from to : ℕ) (out : List Span) → from ≤ to → AllAre test false from to → LeadsFrom test end from out → LeadsFrom test end to out
leads-on test end from to out le none lead = λ rest runs. lead rest (runs-back test from to end rest le none runs)

-- pixels that fail, after a run: its span is whole
pub leads-ended : (test : ℕ → Bool) (end start from to : ℕ) (out : List Span) → from < to → to ≤ end → AllAre test false from to →
    (start < from) × AllAre test true start from × LeadsFrom test end start out → LeadsFrom test end to (out ++ record { from = start; to = from } ∷ [])
leads-ended test end start from to out some within none inside = λ rest runs. subst (λ xs. AreRunsFrom test 0 end xs)
    (sym (append_assoc out (record { from = start; to = from } ∷ []) rest))
    (inside.2 (record { from = start; to = from } ∷ rest) (
      record {
        begins = omega arith;
        some = inside.0;
        within = omega arith;
        before = λ i first last. absurd (omega arith);
        inside = inside.1.each;
        after = λ below. none.each from (omega arith) some;
      },
      runs-back test from to end rest (omega arith) none runs,
    ))

-- the row's end, outside of a run and in one
pub leads-all : (test : ℕ → Bool) (end : ℕ) (out : List Span) → LeadsFrom test end end out → AreRunsFrom test 0 end out
leads-all test end out lead = subst (λ xs. AreRunsFrom test 0 end xs) (append-nil out) (lead [] (λ i first last. absurd (omega arith)))

-- tests that agree have the same runs
pub runs-same : (test other : ℕ → Bool) (from end : ℕ) (spans : List Span) → ((i : ℕ) → i < end → test i ≡ other i) →
    AreRunsFrom test from end spans → AreRunsFrom other from end spans
runs-same test other from end [] same runs = λ i first last. sym (same i last) ∙ runs i first last
runs-same test other from end (span ∷ spans) same runs = (
  record {
    begins = runs.0.begins;
    some = runs.0.some;
    within = runs.0.within;
    before = λ i first last. sym (same i (omega (arith, runs.0.within, runs.0.some))) ∙ runs.0.before i first last;
    inside = λ i first last. sym (same i (omega (arith, runs.0.within))) ∙ runs.0.inside i first last;
    after = λ below. sym (same span.to below) ∙ runs.0.after below;
  },
  runs-same test other span.to end spans same runs.1,
)
