-- Numbers, and counts within bounds (docs/MAPFILE.md, "Numbers" and "Labels").
use Rattle.std.specs.Prelude.{ℕ, zero, ◌==◌, ◌&&◌, nat_le, if◌then◌else◌, List, ℤ, pos, negsuc, Option, None, Some, option_map, option_and_then}
use Rattle.std.specs.Result.{result_ok}
use Rattle.geom.specs.declared.micro.TheConstants.{NUMBER_LIMIT}
use Rattle.geom.specs.Decimal.{reading}
use Rattle.geom.specs.Number.{count_of}
use Rattle.mapwords.specs.declared.table.CountKeyword.{CountKeyword}
use Rattle.mapwords.specs.declared.table.CountKeyword.TheVariants.{MinDistance}
use Rattle.mapwords.specs.Table.{count_number, least_of, most_of}

-- the number that a text means, in millionths
abbrev pub number_in : List ℕ → Option ℤ
number_in text = result_ok (reading text NUMBER_LIMIT)

-- a count of a keyword
pub record CountValue : Type 0 where
  pub keyword : CountKeyword
  pub number : ℕ

-- a count that is within the bounds, both included
abbrev pub bounded : ℕ → ℕ → ℤ → Option ℕ
bounded least most (pos n) = if nat_le least n && nat_le n most then Some n else None
bounded least most (negsuc n) = None

-- the MINDISTANCE -1 is 0
abbrev pub none_as_zero : CountKeyword → ℤ → ℤ
none_as_zero keyword (pos n) = pos n
none_as_zero MinDistance (negsuc zero) = pos 0
none_as_zero keyword (negsuc n) = negsuc n

-- the count within the bounds of a keyword that a text means
abbrev pub counted : CountKeyword → List ℕ → Option ℕ
counted keyword text = option_and_then (bounded (least_of keyword) (most_of keyword)) (option_map (none_as_zero keyword) (count_of text))

-- it is a count of the keyword
abbrev pub read_count : CountKeyword → List ℕ → Option CountValue
read_count keyword text = option_map (λ n. record { keyword = keyword; number = n }) (counted keyword text)

-- the number of a count, if it is one of this keyword
abbrev pub number_of : CountKeyword → CountValue → Option ℕ
number_of keyword count = if count_number count.keyword == count_number keyword then Some count.number else None
