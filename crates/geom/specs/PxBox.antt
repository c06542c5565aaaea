-- Boxes of pixels (docs/DRAWING.md, "From the world to the picture").
use Rattle.std.specs.Prelude.{ℕ, ℤ, pos, ◌≤ℤ◌, ◌<ℤ◌, ◌-ℤ◌, ◌+ℤ◌}
use Rattle.geom.specs.Range.{IsBelow}

-- a box of pixels: the columns from the left to before the right, the rows from the top to before the bottom
pub record PixelBoxValue : Type 0 where
  pub left : ℤ
  pub top : ℤ
  pub right : ℤ
  pub bottom : ℤ

-- the pixel in a column and a row lies in the box
pub record HasPixel (area : PixelBoxValue) (column row : ℤ) : Type 0 where
  pub left : area.left ≤ℤ column
  pub right : column <ℤ area.right
  pub top : area.top ≤ℤ row
  pub bottom : row <ℤ area.bottom

-- some pixel lies in both boxes
abbrev pub Meets : PixelBoxValue → PixelBoxValue → Type 0
Meets a b = (column : ℤ) × (row : ℤ) × HasPixel a column row × HasPixel b column row

-- some column or row lies in both ranges, each from its start to before its end
abbrev pub Overlap : ℤ → ℤ → ℤ → ℤ → Type 0
Overlap start end other_start other_end =
    (z : ℤ) × (start ≤ℤ z) × (z <ℤ end) × (other_start ≤ℤ z) × (z <ℤ other_end)

-- all four sides have sizes below the limit
pub record HasSidesBelow (limit : ℕ) (area : PixelBoxValue) : Type 0 where
  pub left : IsBelow limit area.left
  pub top : IsBelow limit area.top
  pub right : IsBelow limit area.right
  pub bottom : IsBelow limit area.bottom

-- the box with so many more pixels on each side
abbrev pub grown : PixelBoxValue → ℕ → PixelBoxValue
grown area n = record {
  left = area.left -ℤ pos n;
  top = area.top -ℤ pos n;
  right = area.right +ℤ pos n;
  bottom = area.bottom +ℤ pos n;
}

-- the number lies between 0 and the end, both included
pub record IsUpTo (end : ℕ) (z : ℤ) : Type 0 where
  pub least : pos 0 ≤ℤ z
  pub most : z ≤ℤ pos end

-- all four sides lie within the picture of that width and height
pub record IsInside (area : PixelBoxValue) (width height : ℕ) : Type 0 where
  pub left : IsUpTo width area.left
  pub right : IsUpTo width area.right
  pub top : IsUpTo height area.top
  pub bottom : IsUpTo height area.bottom
