-- The words of a line (Glyph Bitmap Distribution Format 2.1; docs/FILES.md, "Lines of a font").
use Rattle.std.specs.Prelude.{ℕ, Bool, ◌==◌, nat_lt, List, length, filter}
use Rattle.std.specs.List.{slice_split}

-- a space
abbrev pub is_space : ℕ → Bool
is_space b = b == 32

-- the words of a line: the parts between spaces that are not empty
abbrev pub words : List ℕ → List (List ℕ)
words line = filter (λ word. nat_lt 0 (length word)) (slice_split is_space line)
