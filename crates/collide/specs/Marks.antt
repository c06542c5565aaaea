-- Which pixels of a picture with one more column and one more row on each side lie in boxes (docs/DRAWING.md, "From the world to the picture").
use Rattle.std.specs.Prelude.{ℕ, ℤ, pos, negsuc, List, ◌≡◌, ◌≤◌, ◌<◌, ◌+◌, ◌*◌, ◌^◌, ◌-ℤ◌, ◌↔◌, ◌⊎◌, Bool, true, length, min, All}
use Rattle.std.specs.List.{Any}
use Rattle.geom.specs.PxBox.{PixelBoxValue, HasPixel, Meets}
use Rattle.collide.specs.Bits.{HasBit}
use Rattle.collide.specs.declared.marks.Marks.{Marks}

-- Which bit of so many in a row a position has: the first bit is that of the position one left of the picture. A
-- position beyond the last bit has the number of all.
abbrev pub bit_of : ℕ → ℤ → ℕ
bit_of count (pos n) = min (n + 1) count
bit_of count (negsuc n) = 0

-- the pixels that have a bit
abbrev pub around : Marks → PixelBoxValue
around marks = record { left = negsuc 0; top = negsuc 0; right = pos marks.columns -ℤ pos 1; bottom = pos marks.rows -ℤ pos 1 }

-- each of them has one
pub record IsWhole (marks : Marks) : Type 0 where
  pub columns : marks.columns < 2 ^ 14
  pub rows : marks.rows < 2 ^ 14
  pub words : marks.columns * marks.rows ≤ 64 * length marks.words.items

-- the pixel of the bit in a column and a row lies in a box
abbrev pub HasPixelOf : PixelBoxValue → ℕ → ℕ → Type 0
HasPixelOf area i j = HasPixel area (pos i -ℤ pos 1) (pos j -ℤ pos 1)

-- it is marked
abbrev pub IsMarked : Marks → ℕ → ℕ → Type 0
IsMarked marks i j = HasBit marks.words.items (j * marks.columns + i)

-- nothing is marked
pub record IsBlank (marks : Marks) : Type 0 where
  pub whole : IsWhole marks
  pub none : (i j : ℕ) → IsMarked marks i j → ⊥

-- the pixels of a box are marked, and the others are as they were
abbrev pub IsMarkedBy : PixelBoxValue → Marks → Marks → Type 0
IsMarkedBy area old new = (i j : ℕ) → i < old.columns → j < old.rows → IsMarked new i j ↔ (HasPixelOf area i j ⊎ IsMarked old i j)

-- some pixel of a box is marked
pub record HasMarked (marks : Marks) (area : PixelBoxValue) : Type 0 where
  pub column : ℕ
  pub row : ℕ
  pub left : column < marks.columns
  pub up : row < marks.rows
  pub has : HasPixelOf area column row
  pub is : IsMarked marks column row

-- a box has a pixel that has a bit, if it has any
abbrev pub IsMarkable : Marks → PixelBoxValue → Type 0
IsMarkable marks area = Meets area area → Meets area (around marks)

-- the marked pixels are those of boxes, and all boxes are near where the flag says so
pub record IsKept (marks : Marks) (all_near : Bool) (boxes : List PixelBoxValue) : Type 0 where
  pub whole : IsWhole marks
  pub marked : (i j : ℕ) → i < marks.columns → j < marks.rows → IsMarked marks i j ↔ Any (λ area. HasPixelOf area i j) boxes
  pub near : all_near ≡ true → All (IsMarkable marks) boxes
