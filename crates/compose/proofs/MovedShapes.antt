-- Shapes as they lie from a pixel, and their colours.
use Rattle.std.proofs.Common.{◌≡◌, ◌∙◌, ℕ, ◌+◌, List, [], ◌∷◌, map, cond, Option, refl, sym, ap}
use Rattle.std.specs.Prelude.{pos}
use Rattle.geom.specs.Device.{PixelValue}
use Rattle.mapdefs.specs.declared.colour.Rgb.{Rgb}
use Rattle.moves.proofs.Lines.{lines-move, squares-move}
use Rattle.moves.proofs.Rings.{rings-move}
use Rattle.moves.proofs.Rounds.{discs-move, round_lines-move}
use Rattle.moves.proofs.Stamps.{stamp-colours-move, stamps-move}
use Rattle.moves.proofs.Texts.{ink-moves, outlines-move}
use Rattle.canvas.specs.Painted.{colour_at}
use Rattle.canvas.specs.Shapes.{PaintedShape, colour_in, covers}
use Rattle.canvas.specs.Shapes as shape
use Rattle.canvas.proofs.Painting.{colour_at-append, colour_at-none, colour_at-one}
use Rattle.compose.specs.Blocks.{ShapesMove, shape_from}

module _ (left top : ℕ) where
  abbrev corner : PixelValue
  corner = record { i = pos left; j = pos top }

  covers-moved : (s : PaintedShape) (i j : ℕ) → covers (shape_from corner s) i j ≡ covers s (left + i) (top + j)
  covers-moved (shape.Fill rings colour) i j = rings-move corner rings (pos i) (pos j)
  covers-moved (shape.Stroke line colour) i j = lines-move corner line (pos i) (pos j)
  covers-moved (shape.RoundStroke segments colour) i j = round_lines-move corner segments (pos i) (pos j)
  covers-moved (shape.Mark square colour) i j = squares-move corner square (pos i) (pos j)
  covers-moved (shape.Disc disc colour) i j = discs-move corner disc (pos i) (pos j)
  covers-moved (shape.Stamped pixmap) i j = stamps-move corner pixmap (pos i) (pos j)
  covers-moved (shape.Outlined w reach colour) i j = outlines-move corner reach w.font w.characters w.at (pos i) (pos j)
  covers-moved (shape.Inked w colour) i j = ink-moves corner w.font w.characters w.at (pos i) (pos j)

  colours-moved : (s : PaintedShape) (i j : ℕ) → colour_in (shape_from corner s) i j ≡ colour_in s (left + i) (top + j)
  colours-moved (shape.Fill rings colour) i j = refl
  colours-moved (shape.Stroke line colour) i j = refl
  colours-moved (shape.RoundStroke segments colour) i j = refl
  colours-moved (shape.Mark square colour) i j = refl
  colours-moved (shape.Disc disc colour) i j = refl
  colours-moved (shape.Stamped pixmap) i j = stamp-colours-move corner pixmap (pos i) (pos j)
  colours-moved (shape.Outlined w reach colour) i j = refl
  colours-moved (shape.Inked w colour) i j = refl

  one-moved : (background : Option Rgb) (s : PaintedShape) (i j : ℕ) →
      colour_at background (shape_from corner s ∷ []) i j ≡ colour_at background (s ∷ []) (left + i) (top + j)
  one-moved background s i j =
      colour_at-one background (shape_from corner s) i j
      ∙ (ap (λ b. cond b (colour_in (shape_from corner s) i j) background) (covers-moved s i j)
      ∙ (ap (λ (c : Option Rgb). cond (covers s (left + i) (top + j)) c background) (colours-moved s i j) ∙ sym (colour_at-one background s (left + i) (top + j))))

  -- shapes that are painted one after another
  pub colour_at-moved : (background : Option Rgb) (shapes : List PaintedShape) (i j : ℕ) →
      colour_at background (map (shape_from corner) shapes) i j ≡ colour_at background shapes (left + i) (top + j)
  colour_at-moved background [] i j = colour_at-none background i j ∙ sym (colour_at-none background (left + i) (top + j))
  colour_at-moved background (s ∷ shapes) i j =
      colour_at-append background (shape_from corner s ∷ []) (map (shape_from corner) shapes) i j
      ∙ (ap (λ c. colour_at c (map (shape_from corner) shapes) i j) (one-moved background s i j)
      ∙ (colour_at-moved (colour_at background (s ∷ []) (left + i) (top + j)) shapes i j
      ∙ sym (colour_at-append background (s ∷ []) shapes (left + i) (top + j))))

pub shapes-move : ShapesMove
shapes-move left top s i j = (covers-moved left top s i j, colours-moved left top s i j)
