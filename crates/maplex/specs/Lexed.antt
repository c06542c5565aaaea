-- The tokens of a source, and what ends them (docs/MAPFILE.md, "Tokens").
use Rattle.std.specs.Prelude.{◌≡◌, ℕ, zero, suc, ◌+◌, ◌≤◌, List, [], ◌∷◌, length}
use Rattle.maplex.specs.declared.fault.Tail.{Tail}
use Rattle.maplex.specs.declared.fault.Tail.TheVariants.{Ends, Breaks}
use Rattle.maplex.specs.Position.{Position, start, line_ends, after_blanks}
use Rattle.maplex.specs.Token.{TokenValue, Stops, Reads, step}

-- what is lexed from a position on: tokens, and what comes after the last one, which is the end of the source or the first fault
pub record Lexed : Type 0 where
  pub tokens : List TokenValue
  pub tail : Tail

-- no token, but this tail
abbrev pub stopped : Tail → Lexed
stopped tail = record { tokens = []; tail = tail }

-- the end of the source, on its line
abbrev pub ended : ℕ → Lexed
ended line = stopped (Ends line)

-- the line of the end or of the fault
abbrev pub line_of : Tail → ℕ
line_of (Ends line) = line
line_of (Breaks f) = f.line

-- a token, and what comes after it
abbrev pub with_token : TokenValue → Lexed → Lexed
with_token t others = record { tokens = t ∷ others.tokens; tail = others.tail }

-- what is lexed from a position on, in so many steps: after blanks and comments comes the tail, or a token before the others
unfoldable pub lexed_within : ℕ → Position → Lexed
lexed_within zero p = ended p.line
lexed_within (suc n) p = elim (step (after_blanks p)) [
  | Stops tail ↦ stopped tail
  | Reads t next ↦ with_token t (lexed_within n next)
]

-- what is lexed from a position on: a token takes a byte at least, so that as many steps as bytes are enough
abbrev pub lexed_from : Position → Lexed
lexed_from p = lexed_within (length p.rest) p

-- what is lexed of a source
abbrev pub lexed : List ℕ → Lexed
lexed source = lexed_from (start source)

-- the law that the end is on the last line
abbrev pub EndIsOnLastLine : Type 0
EndIsOnLastLine = (source : List ℕ) (line : ℕ) → (lexed source).tail ≡ Ends line → line ≡ 1 + line_ends source

-- the law that more steps than bytes change nothing
abbrev pub BytesAreEnough : Type 0
BytesAreEnough = (source : List ℕ) (n : ℕ) → length source ≤ n → lexed_within n (start source) ≡ lexed source
