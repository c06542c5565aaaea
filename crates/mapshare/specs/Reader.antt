-- The value of a reader (docs/SERVICE.md, "Sharing").
use Rattle.std.specs.Prelude.{ℕ, Bool, true, false, List}

-- the batches that a reader knows to be published, those that its last entry showed, and whether it has its part of the map. An entry has that part
-- until the entry ends
pub record ReaderValue : Type 0 where
  pub known : List (List ℕ)
  pub seen : List (List ℕ)
  pub is_free : Bool

-- a reader that has its part, knows these batches and was shown all of them
abbrev pub free : List (List ℕ) → ReaderValue
free known = record { known = known; seen = known; is_free = true }

-- a reader that was entered, and knows these batches, which the entry shows
abbrev pub entered : List (List ℕ) → ReaderValue
entered known = record { known = known; seen = known; is_free = false }

-- a reader after an entry that showed these batches
abbrev pub freed : ReaderValue → List (List ℕ) → ReaderValue
freed reader shown = record { known = reader.known; seen = shown; is_free = true }
