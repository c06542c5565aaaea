-- Numbers of millionths as decimal texts (docs/MAPFILE.md, "Numbers").
use Rattle.std.specs.Prelude.{ℕ, suc, ℤ, pos, negsuc, ◌+◌, ◌/◌, ◌%◌, ◌^◌, ◌<◌, ◌≤◌, ◌≡◌, ◌++◌, List, [], ◌∷◌, unsigned_abs, Bool, Ok, true, false, length, slice_index_or}
use Rattle.std.specs.Char.{is_ascii_digit}
use Rattle.std.specs.Fmt.{decimal}
use Rattle.std.specs.List.{list_all}
use Rattle.geom.specs.Decimal.{reading}

-- the lowest digit of a number
abbrev pub last_digit : ℕ → ℕ
last_digit n = 48 + n % 10

-- the six lowest digits of a number
abbrev pub six_digits : ℕ → List ℕ
six_digits n = last_digit (n / 100000) ∷ last_digit (n / 10000) ∷ last_digit (n / 1000) ∷ last_digit (n / 100) ∷ last_digit (n / 10) ∷ last_digit n ∷ []

-- a size in millionths, written out: the whole part, a point, and six digits
abbrev pub written_size : ℕ → List ℕ
written_size n = decimal (n / 1000000) ++ 46 ∷ six_digits n

-- a size in millionths with a minus before it, or without one
abbrev pub signed_size : Bool → ℕ → List ℕ
signed_size true n = 45 ∷ written_size n
signed_size false n = written_size n

-- a number of millionths, written out: a minus below 0, and its size
abbrev pub written : ℤ → List ℕ
written (pos n) = written_size n
written (negsuc n) = 45 ∷ written_size (suc n)

-- the law that a number that is written out is read as that number, up to every limit
abbrev pub WrittenIsRead : Type 0
WrittenIsRead = (z : ℤ) (limit : ℕ) → unsigned_abs z ≤ limit → limit < 2 ^ 63 → reading (written z) limit ≡ Ok z

-- the sign of a number: a minus below 0, else none
abbrev pub sign_of : ℤ → List ℕ
sign_of (pos n) = []
sign_of (negsuc n) = 45 ∷ []

-- a sign only if negative, digits without a needless zero before them, a point, and six digits
pub record HasForm (z : ℤ) (text : List ℕ) : Type 0 where
  pub whole : List ℕ
  pub decimals : List ℕ
  pub parts : text ≡ sign_of z ++ (whole ++ 46 ∷ decimals)
  pub digits : list_all is_ascii_digit whole ≡ true
  pub some : 1 ≤ length whole
  pub needed : slice_index_or whole 0 0 ≡ 48 → length whole ≡ 1
  pub places : list_all is_ascii_digit decimals ≡ true
  pub six : length decimals ≡ 6

-- the law that a text of the form that is read as a number is the one that is written
abbrev pub OneText : Type 0
OneText = (z : ℤ) (limit : ℕ) (text : List ℕ) → limit < 2 ^ 63 → HasForm z text → reading text limit ≡ Ok z → text ≡ written z
