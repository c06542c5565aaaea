-- Frames: an END is before and after each, and in none (RFC 1055, "SLIP").
use Rattle.std.specs.Prelude.{◌≢◌, ℕ, ◌==◌, if◌then◌else◌, List, [], ◌∷◌, ◌++◌}

-- the form of a byte in a frame: an END (192) is ESC ESC_END, an ESC (219) is ESC ESC_ESC, and any other byte is itself
abbrev pub escaped : ℕ → List ℕ → List ℕ
escaped byte rest = if byte == 192 then 219 ∷ 220 ∷ rest else if byte == 219 then 219 ∷ 221 ∷ rest else byte ∷ rest

-- the form of bytes in a frame
abbrev pub stuffed : List ℕ → List ℕ
stuffed [] = []
stuffed (byte ∷ bytes) = escaped byte (stuffed bytes)

-- a frame of these bytes
abbrev pub frame : List ℕ → List ℕ
frame bytes = 192 ∷ (stuffed bytes ++ 192 ∷ [])

-- no byte is an END
abbrev pub HasNoEnd : List ℕ → Type 0
HasNoEnd [] = Unit {0}
HasNoEnd (byte ∷ bytes) = (byte ≢ 192) × HasNoEnd bytes
