-- How smooth a map's pictures are, as a CONFIG says it (docs/MAPFILE.md, "Smoothing").
use Rattle.std.specs.Prelude.{ℕ, if◌then◌else◌, List, codes, Option, None, Some, option_map}
use Rattle.mapdefs.specs.Name.{is_same_name}
use Rattle.mapwords.specs.declared.smoothing.Smoothing.{Smoothing}

-- the digit that each factor is written as
abbrev pub factor_of : List ℕ → Option ℕ
factor_of text =
    if is_same_name text (codes "1") then Some 1
    else if is_same_name text (codes "2") then Some 2
    else if is_same_name text (codes "3") then Some 3
    else if is_same_name text (codes "4") then Some 4
    else None

-- the factor that a text is, with its line
abbrev pub read_smoothing : List ℕ → ℕ → Option Smoothing
read_smoothing text line = option_map (λ n. record { factor = n; line = line }) (factor_of text)
