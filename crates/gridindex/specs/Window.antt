-- The boxes of a list that meet a window (docs/DRAWING.md, "From the world to the picture").
use Rattle.std.specs.Prelude.{ℕ, List, ◌≡◌, ◌↔◌, ◌<◌, Some}
use Rattle.std.specs.List.{Contains, slice_get}
use Rattle.std.specs.List.Sorted.{IsStrictlyIncreasing}
use Rattle.geom.specs.World.{Area, Meets}

-- the list has a box of that index, and it meets the window
abbrev pub MeetsAt : Area → List Area → ℕ → Type 0
MeetsAt window boxes k = (area : Area) × (slice_get boxes k ≡ Some area) × Meets window area

-- the numbers are exactly the indices of the boxes that meet the window, each below the next
pub record IsAnswer (window : Area) (boxes : List Area) (found : List ℕ) : Type 0 where
  pub rising : IsStrictlyIncreasing found
  pub exact : (k : ℕ) → Contains found k ↔ MeetsAt window boxes k

-- the same of the first so many boxes
pub record IsAnswerOfFirst (window : Area) (boxes : List Area) (count : ℕ) (found : List ℕ) : Type 0 where
  pub rising : IsStrictlyIncreasing found
  pub exact : (k : ℕ) → Contains found k ↔ ((k < count) × MeetsAt window boxes k)

-- the law that a window has one answer
abbrev pub AnswersAreOne : Type 0
AnswersAreOne = (window : Area) (boxes : List Area) (found other : List ℕ) → IsAnswer window boxes found → IsAnswer window boxes other → found ≡ other
