-- Where a logical expression ends (docs/MAPFILE.md, "Tokens").
use Rattle.std.specs.Prelude.{ℕ, ◌+◌, ◌-◌, nat_lt, ◌==◌, if◌then◌else◌, Option, None, Some, List, [], ◌∷◌, length}
use Rattle.std.specs.Option.{option_map_or}
use Rattle.maplex.specs.declared.logic.Opened.{Opened}
use Rattle.maplex.specs.Byte.{is_quote}

-- so many brackets are open besides the expression's own, and a quote or none
abbrev pub opened : ℕ → Option ℕ → Opened
opened brackets quote = record { brackets = brackets; quote = quote }

-- what is open after a byte outside of quotes, unless it closes the expression
abbrev pub after_bare : ℕ → ℕ → Option Opened
after_bare n b =
    if is_quote b then Some (opened n (Some b))
    else (if b == 40 then Some (opened (n + 1) None)
    else (if b == 41 then (if n == 0 then None else Some (opened (n - 1) None))
    else Some (opened n None)))

-- what is open after a byte, unless it closes the expression; brackets within quotes don't count
abbrev pub after_byte : ℕ → Option ℕ → ℕ → Option Opened
after_byte n None b = after_bare n b
after_byte n (Some quote) b = if b == quote then Some (opened n None) else Some (opened n (Some quote))

-- the same of what is open before the byte
abbrev pub opened_after : Opened → ℕ → Option Opened
opened_after o b = after_byte o.brackets o.quote b

-- how many bytes come before the one that closes the expression, or how many there are
abbrev pub inner_len : Opened → List ℕ → ℕ
inner_len o [] = 0
inner_len o (b ∷ bs) = option_map_or (λ next. 1 + inner_len next bs) (opened_after o b) 0

-- how many bytes the expression has whose bracket opens before some bytes, if one of these closes it
abbrev pub logic_size : List ℕ → Option ℕ
logic_size bs =
    if nat_lt (inner_len (opened 0 None) bs) (length bs) then Some (2 + inner_len (opened 0 None) bs) else None
