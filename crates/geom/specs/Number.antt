-- Coordinates and counts (docs/MAPFILE.md, "Numbers").
use Rattle.std.specs.Prelude.{ℕ, List, ℤ, Option}
use Rattle.std.specs.Option.{option_map}
use Rattle.std.specs.Result.{result_ok}
use Rattle.geom.specs.declared.micro.TheConstants.{NUMBER_LIMIT, COORDINATE_LIMIT}
use Rattle.geom.specs.Decimal.{reading, whole_of}

-- the coordinate that a text means, in millionths of a degree, if it is one
abbrev pub coordinate_of : List ℕ → Option ℤ
coordinate_of text = result_ok (reading text COORDINATE_LIMIT)

-- the count that a text means: its number, rounded to a whole one
abbrev pub count_of : List ℕ → Option ℤ
count_of text = option_map whole_of (result_ok (reading text NUMBER_LIMIT))
