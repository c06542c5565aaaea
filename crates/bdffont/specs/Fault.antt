-- The faults of a BDF file (docs/FILES.md, "Faults of a font").
use Rattle.std.specs.Prelude.{ℕ}
use Rattle.bdffont.specs.declared.fault.FontKind.{FontKind}
use Rattle.bdffont.specs.declared.fault.FontKind.TheVariants.{Start, Field, Row, Count, Limit, Truncated}

-- the number of a kind
abbrev pub number_of : FontKind → ℕ
number_of Start = 1
number_of Field = 2
number_of Row = 3
number_of Count = 4
number_of Limit = 5
number_of Truncated = 6
