-- What a style paints of lines and of a point (docs/DRAWING.md, "How features are painted").
use Rattle.std.specs.Prelude.{ℕ, ◌*◌, ◌++◌, true, false, List, [], None, Some, slice_get}
use Rattle.std.specs.Option.{option_map_or}
use Rattle.geom.specs.Device.{DevicePoint, pixel_of}
use Rattle.geom.specs.World.{Place}
use Rattle.mapdefs.specs.declared.style.StyleFields.{StyleFields}
use Rattle.mapdefs.specs.declared.symbol.Symbol.{Symbol}
use Rattle.mapdefs.specs.declared.symbol.SymbolShape.{SymbolShape}
use Rattle.mapdefs.specs.declared.symbol.SymbolShape.TheVariants as symbol
use Rattle.strokes.specs.Disc.{disc_of, ring_of}
use Rattle.viewport.specs.View.{ViewValue, device_point}
use Rattle.canvas.specs.Shapes.{PaintedShape, discs, line_by, marks, stamps, strokes}

-- what a style paints of lines, where a map's pixel is so many of the picture's: the line along them
abbrev pub line_shapes : ℕ → List (List DevicePoint) → StyleFields → List PaintedShape
line_shapes factor parts style = strokes (line_by factor parts false style.width) style.colour

-- what it paints of the outlines of polygons: the closed line along their rings
abbrev pub outline_shapes : ℕ → List (List DevicePoint) → StyleFields → List PaintedShape
outline_shapes factor rings style = strokes (line_by factor rings true style.width) style.outline

-- what it paints of a disc round a device point: the disc, and then its outline, the ring of the style's width in it
abbrev pub disc_shapes : ℕ → StyleFields → DevicePoint → List PaintedShape
disc_shapes factor style at =
    discs (disc_of at (factor * style.size)) style.colour ++ discs (ring_of at (factor * style.size) (factor * style.width)) style.outline

-- what it paints of a symbol at a device point: a disc round it, or a pixmap round its pixel
abbrev pub symbol_shapes : ℕ → StyleFields → DevicePoint → SymbolShape → List PaintedShape
symbol_shapes factor style at symbol.Disc = disc_shapes factor style at
symbol_shapes factor style at (symbol.Pixmap pixmap) = stamps (pixel_of at) pixmap

-- what a style paints of a point: its symbol, or without one a square round the point's pixel
abbrev pub point_shapes : ViewValue → List Symbol → StyleFields → Place → List PaintedShape
point_shapes view symbols style place =
    let at = device_point view place in
    elim style.symbol [
      | Some index ↦ option_map_or (λ (symbol : Symbol). symbol_shapes view.factor style at symbol.shape) (slice_get symbols index) []
      | None ↦ marks (record { pixel = pixel_of at; size = view.factor * style.size }) style.colour
    ]
