-- The bits of a list of words of 64 bits each, by their numbers, as the code keeps them.
use Rattle.std.specs.Prelude.{ℕ, List, ◌≡◌, ◌<◌, ◌≤◌, ◌*◌, ◌/◌, ◌%◌, ◌↔◌, ◌⊎◌, length, slice_index_or}
use Rattle.std.specs.Int.{bit_at}

-- the bit of a number is set
abbrev pub HasBit : List ℕ → ℕ → Type 0
HasBit words n = bit_at (slice_index_or words (n / 64) 0) (n % 64) ≡ 1

-- the bits from one to before another are set, and the others are as they were
abbrev pub AreSet : ℕ → ℕ → List ℕ → List ℕ → Type 0
AreSet from past old new = (n : ℕ) → n < 64 * length old → HasBit new n ↔ (((from ≤ n) × (n < past)) ⊎ HasBit old n)

-- one of the bits from one to before another is set
pub record HasAny (from past : ℕ) (words : List ℕ) : Type 0 where
  pub number : ℕ
  pub first : from ≤ number
  pub last : number < past
  pub is : HasBit words number
