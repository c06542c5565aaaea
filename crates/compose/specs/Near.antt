-- How far a feature's paint reaches from its points (docs/DRAWING.md, "How features are painted").
use Rattle.std.specs.Prelude.{◌≡◌, ℕ, ◌*◌, ◌<◌, max, true, List, [], ◌∷◌, Option, None, Some, length, All, slice_get}
use Rattle.std.specs.List.{Contains, flat_map, list_any}
use Rattle.std.specs.List.Sorted.{IsStrictlyIncreasing}
use Rattle.mapdefs.specs.declared.colour.Rgb.{Rgb}
use Rattle.canvas.specs.Painted.{colour_at}
use Rattle.std.specs.Option.{option_map_or}
use Rattle.scaledenom.specs.Scale.{PictureScale}
use Rattle.mapdefs.specs.declared.class.ClassFields.{ClassFields}
use Rattle.mapdefs.specs.declared.feature.FeatureFields.{FeatureFields}
use Rattle.mapdefs.specs.declared.layer.LayerFields.{LayerFields}
use Rattle.mapdefs.specs.declared.style.StyleFields.{StyleFields}
use Rattle.mapdefs.specs.declared.symbol.Symbol.{Symbol}
use Rattle.mapdefs.specs.declared.symbol.SymbolShape.{SymbolShape}
use Rattle.mapdefs.specs.declared.symbol.SymbolShape.TheVariants as symbol
use Rattle.viewport.specs.View.{IsView, ViewValue, window}
use Rattle.canvas.specs.Shapes.{PaintedShape, covers}
use Rattle.compose.specs.Paint.{feature_shapes}
use Rattle.compose.specs.Walk.{given_at}
use Rattle.mapdefs.specs.Near.{HasBoxIn}

-- the greater side of a symbol's pixmap; a disc has the size of its style
abbrev pub side_of : SymbolShape → ℕ
side_of symbol.Disc = 0
side_of (symbol.Pixmap pixmap) = max pixmap.width pixmap.height

-- how far a symbol paints from a point at most, beside the size of its style: the greater side of its pixmap
abbrev pub symbol_reach : List Symbol → Option ℕ → ℕ
symbol_reach symbols (Some index) = option_map_or (λ (symbol : Symbol). side_of symbol.shape) (slice_get symbols index) 0
symbol_reach symbols None = 0

-- how far a style paints from a point at most, where a map's pixel is so many of the picture's: its width, its size and the sides of its symbol
abbrev pub reach_of : ℕ → List Symbol → StyleFields → ℕ
reach_of factor symbols style = max (max (factor * style.width) (factor * style.size)) (symbol_reach symbols style.symbol)

-- the furthest that some styles paint, or 0 without any
abbrev pub furthest : ℕ → List Symbol → List StyleFields → ℕ
furthest factor symbols [] = 0
furthest factor symbols (style ∷ styles) = max (reach_of factor symbols style) (furthest factor symbols styles)

-- the margin of a layer: the furthest that the styles of its classes paint
abbrev pub margin_of : ℕ → List Symbol → LayerFields → ℕ
margin_of factor symbols layer = furthest factor symbols (flat_map (λ (class : ClassFields). class.styles) layer.classes)

-- the law: where some shape that is painted of a feature covers a pixel of the picture, its box meets the window of the layer's margin
abbrev pub PaintsNear : Type 0
PaintsNear = (view : ViewValue) (scale : PictureScale) (symbols : List Symbol) (layer : LayerFields) (feature : FeatureFields) (i j : ℕ) →
    IsView view → i < view.width → j < view.height →
    list_any (λ shape. covers shape i j) (feature_shapes view scale symbols layer feature) ≡ true →
    HasBoxIn (window view (margin_of view.factor symbols layer)) feature

-- the law: painting candidates in their order is painting all, where each whose shapes cover a pixel of the picture is a candidate
abbrev pub CandidatesPaintAll : Type 0
CandidatesPaintAll = (f : FeatureFields → List PaintedShape) (features : List FeatureFields) (found : List ℕ) (background : Option Rgb) (i j : ℕ) →
    IsStrictlyIncreasing found → All (λ k. k < length features) found →
    ((k : ℕ) (feature : FeatureFields) → slice_get features k ≡ Some feature → list_any (λ shape. covers shape i j) (f feature) ≡ true → Contains found k) →
    colour_at background (flat_map (given_at f features) found) i j ≡ colour_at background (flat_map f features) i j
