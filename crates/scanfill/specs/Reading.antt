-- How a row is read from left to right (docs/DRAWING.md, "When a pixel belongs to a polygon").
use Rattle.std.specs.Prelude.{◌≡◌, ℕ, ◌≤◌, ◌<◌, Bool, true, List, ◌++◌}
use Rattle.scanfill.specs.Runs.{AreRunsFrom}
use Rattle.scanfill.specs.declared.reading.Reading.{Reading}
use Rattle.scanfill.specs.declared.reading.Reading.TheVariants as reading
use Rattle.scanfill.specs.declared.span.Span.{Span}

-- the pixels from one column to before another all have that answer to the test
pub record AllAre (test : ℕ → Bool) (answer : Bool) (from past : ℕ) : Type 0 where
  pub each : (i : ℕ) → from ≤ i → i < past → test i ≡ answer

-- what completes the row from a column on completes it after these spans too
abbrev pub LeadsFrom : (ℕ → Bool) → ℕ → ℕ → List Span → Type 0
LeadsFrom test end past out = (rest : List Span) → AreRunsFrom test past end rest → AreRunsFrom test 0 end (out ++ rest)

-- a row was read up to before a column: the spans are its runs, but for one that the reading may still be in
abbrev pub IsReading : (ℕ → Bool) → ℕ → ℕ → Reading → List Span → Type 0
IsReading test end past reading.Outside out = LeadsFrom test end past out
IsReading test end past (reading.Inside from) out = (from < past) × AllAre test true from past × LeadsFrom test end from out
