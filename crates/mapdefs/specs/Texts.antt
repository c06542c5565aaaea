-- Texts that lie one after the other.
use Rattle.std.specs.Prelude.{◌≡◌, ℕ, ◌≤◌, List, [], ◌∷◌, length}
use Rattle.std.specs.List.{slice_range}
use Rattle.std.specs.Str.{IsCharBoundary}

-- the texts of some bytes, by where each ends: the first begins at a place, and each other where the one before it ends
abbrev pub texts_from : List ℕ → ℕ → List ℕ → List (List ℕ)
texts_from bytes start [] = []
texts_from bytes start (end ∷ ends) = slice_range bytes start end ∷ texts_from bytes end ends

-- each text ends between two characters, not before it begins, and the last where the bytes end
abbrev pub AreEndsFrom : List ℕ → ℕ → List ℕ → Type 0
AreEndsFrom bytes start [] = start ≡ length bytes
AreEndsFrom bytes start (end ∷ ends) = (start ≤ end) × IsCharBoundary bytes end × AreEndsFrom bytes end ends
