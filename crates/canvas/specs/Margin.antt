-- The window of a view with a margin (docs/DRAWING.md, "How features are painted").
use Rattle.std.specs.Prelude.{ℕ}
use Rattle.viewport.specs.View.{ViewValue}

-- a view, and a margin of pixels round its picture
pub record MarginWindowValue : Type 0 where
  pub view : ViewValue
  pub margin : ℕ
