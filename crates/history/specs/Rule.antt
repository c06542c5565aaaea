-- The rule of a history: the value of the shared word, and the effect of the step that adds a batch (docs/SERVICE.md, "Sharing").
use Rattle.std.specs.Prelude.{ℕ, ◌≡◌, ◌==◌, true, List, [], ◌∷◌, ◌++◌, length, MatchBool}
use Rattle.logbook.specs.Pages.{Cell, Step, View, Book, Named}

-- the first word of the book is the length of the history; the second stays 0
abbrev pub IsKept : List Cell → List (List ℕ) → Type 0
IsKept cells log = cells ≡ (length log, true) ∷ (0, true) ∷ []

-- the first word of a book
abbrev pub head_of : Book → Named
head_of b = record { tracked = true; key = 0; book = b }

-- where the word was the length of all that had been seen, the batch is added after it; else a longer history is seen
abbrev pub Added : Step (List ℕ) → View (List ℕ) ℕ → ℕ → View (List ℕ) ℕ → Type 0
Added s v found w = MatchBool (found == s.old) (w.0 ≡ v.0 ++ s.ask ∷ []) (length w.0 ≡ found)
