-- Whole lines (docs/SERVICE.md, "Sessions").
use Rattle.std.specs.Prelude.{◌≡◌, ℕ, List, [], ◌++◌, ◌⊎◌, codes}

-- some bytes are whole lines: there are none, or the last is an LF
abbrev pub AreLines : List ℕ → Type 0
AreLines bytes = (bytes ≡ []) ⊎ ((front : List ℕ) × (bytes ≡ front ++ codes "\n"))
