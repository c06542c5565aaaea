-- The bytes by which tokens are distinguished (docs/MAPFILE.md, "Tokens").
use Rattle.std.specs.Prelude.{ℕ, Bool, not, ◌==◌, ◌||◌, ◌&&◌, nat_lt}

-- a separator: space, tab, LF, CR or form feed
abbrev pub is_separator : ℕ → Bool
is_separator b = b == 32 || b == 9 || b == 10 || b == 13 || b == 12

-- a quote, double or single
abbrev pub is_quote : ℕ → Bool
is_quote b = b == 34 || b == 39

-- a bracket: one of `(){}`
abbrev pub is_bracket : ℕ → Bool
is_bracket b = b == 40 || b == 41 || b == 123 || b == 125

-- a bracket that closes: `)` or `}`
abbrev pub is_closing : ℕ → Bool
is_closing b = b == 41 || b == 125

-- a byte before which a bare word ends: a separator, a quote, `#` or a bracket
abbrev pub ends_word : ℕ → Bool
ends_word b = is_separator b || is_quote b || b == 35 || is_bracket b

-- a control byte: one below 32 that is no separator, or 127
abbrev pub is_control : ℕ → Bool
is_control b = nat_lt b 32 && not (is_separator b) || b == 127
