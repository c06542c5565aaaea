-- Which characters XML forbids, by the bytes of their texts in UTF-8 (XML 1.0, characters).
use Rattle.std.specs.Prelude.{◌==◌, ◌||◌, ◌&&◌, ℕ, nat_eq, nat_lt, Bool, false, not, List, [], ◌∷◌}
use Rattle.std.specs.List.{starts_with}

-- the byte is a control character other than a tab, a line feed and a carriage return
abbrev pub is_forbidden_control : ℕ → Bool
is_forbidden_control b = nat_lt b 32 && not (b == 9 || b == 10 || b == 13)

-- the bytes begin with U+FFFE or U+FFFF
abbrev pub begins_with_noncharacter : List ℕ → Bool
begins_with_noncharacter bs = starts_with nat_eq bs (239 ∷ 191 ∷ 190 ∷ []) || starts_with nat_eq bs (239 ∷ 191 ∷ 191 ∷ [])

-- a text has a character that no document of XML may have
abbrev pub has_forbidden : List ℕ → Bool
has_forbidden [] = false
has_forbidden (b ∷ bs) = is_forbidden_control b || begins_with_noncharacter (b ∷ bs) || has_forbidden bs
