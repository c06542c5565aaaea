-- Positions in a source, and the blanks and comments between its tokens (docs/MAPFILE.md, "Tokens").
use Rattle.std.specs.Prelude.{ℕ, ◌+◌, Bool, true, false, not, ◌==◌, if◌then◌else◌, List, [], ◌∷◌, take, drop, count_by}
use Rattle.maplex.specs.Byte.{is_separator}

-- a position in a source: the bytes that are left there, and the line on which they begin
pub record Position : Type 0 where
  pub rest : List ℕ
  pub line : ℕ

-- the start of a source, on line 1
abbrev pub start : List ℕ → Position
start source = record { rest = source; line = 1 }

-- how many lines end within some bytes, each by an LF
abbrev pub line_ends : List ℕ → ℕ
line_ends bytes = count_by (λ b. b == 10) bytes

-- the position that many bytes further
abbrev pub further : ℕ → Position → Position
further n p = record { rest = drop n p.rest; line = p.line + line_ends (take n p.rest) }

-- how many bytes of blanks and comments come before the next token: separators, and from each `#` the rest of its line
abbrev pub blank_len : Bool → List ℕ → ℕ
blank_len in_comment [] = 0
blank_len true (b ∷ bs) = 1 + blank_len (not (b == 10)) bs
blank_len false (b ∷ bs) = if b == 35 then 1 + blank_len true bs else (if is_separator b then 1 + blank_len false bs else 0)

-- the position after blanks and comments
abbrev pub after_blanks : Position → Position
after_blanks p = further (blank_len false p.rest) p
