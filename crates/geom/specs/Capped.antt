-- Numbers as 64 bits hold them: what is larger counts as the greatest of them, which is above every limit of docs/MAPFILE.md, "Numbers".
use Rattle.std.specs.Prelude.{ℕ, ℤ, List, ◌-◌, ◌*◌, ◌^◌, min}
use Rattle.geom.specs.Decimal.{up, down, number_of, nearest}
use Rattle.geom.specs.declared.decimal.Exponent.{Exponent}

-- the number, or the greatest that 64 bits hold
abbrev pub capped : ℕ → ℕ
capped n = min n (2 ^ 64 - 1)

-- the exponent, so far as 64 bits hold it
abbrev pub capped_exponent : ℤ → Exponent
capped_exponent z = record { up = capped (up z); down = capped (down z) }

-- the number, or 2 ^ 63, which is past every limit: so far the size of a number is read
abbrev pub clamped_to_limits : ℕ → ℕ
clamped_to_limits n = min n (2 ^ 63)

-- the whole number nearest to that of the digits, times ten so often, divided by ten so often
abbrev pub scaled : List ℕ → ℕ → ℕ → ℕ
scaled digits ups downs = nearest (number_of digits * 10 ^ (ups - downs)) (10 ^ (downs - ups))
