-- Whole numbers of digits, as far as they are read (docs/WMS.md, "Queries"; docs/FILES.md, "Lines of a font").
use Rattle.std.specs.Prelude.{ℕ, List, Option, Some, None, if◌then◌else◌, min}
use Rattle.std.specs.Char.{is_ascii_digit}
use Rattle.std.specs.List.{list_all}
use Rattle.geom.specs.Decimal.{number_of}

-- the number, or `most` where it is greater
abbrev pub up_to : ℕ → ℕ → ℕ
up_to most n = min n most

-- the number that digits alone are
abbrev pub number_in : List ℕ → Option ℕ
number_in text = if list_all is_ascii_digit text then Some (number_of text) else None
