-- What is painted on a block of a picture is what is painted on the whole, from the block's first pixel.
use Rattle.std.proofs.Common.{◌≡◌, ◌∙◌, ℕ, ◌*◌, Bool, true, false, if◌then◌else◌, List, [], ◌∷◌, ◌++◌, map, Option, None, Some, refl, sym, ap, arith, ◌+◌, replicate}
use Rattle.std.proofs.lemmas.Int.{ints}
use Rattle.std.proofs.lemmas.List.{map-append}
use Rattle.std.specs.List.{flat_map}
use Rattle.std.specs.Option.{option_map_or}
use Rattle.std.specs.Str.{chars}
use Rattle.std.specs.Prelude.{nat_lt, pos, slice_get, ℤ, ◌-ℤ◌, ◌*ℤ◌}
use Rattle.geom.specs.Device.{DevicePoint, PixelValue, pixel_of}
use Rattle.scaledenom.specs.Scale.{PictureScale}
use Rattle.geom.specs.World.{Place}
use Rattle.labelcache.specs.Candidate.{CandidateValue}
use Rattle.labelcache.specs.declared.cache.Placed.{Placed}
use Rattle.scene.specs.Classes.{class_of, is_visible_layer}
use Rattle.mapdefs.specs.Fonts.{label_font}
use Rattle.mapdefs.specs.declared.class.ClassFields.{ClassFields}
use Rattle.mapdefs.specs.declared.colour.Rgb.{Rgb}
use Rattle.mapdefs.specs.declared.feature.FeatureFields.{FeatureFields}
use Rattle.mapdefs.specs.declared.font.FontFields.{FontFields}
use Rattle.mapdefs.specs.declared.layer.Geometry.{Geometry}
use Rattle.mapdefs.specs.declared.layer.Geometry.TheVariants as kind
use Rattle.mapdefs.specs.declared.layer.LayerFields.{LayerFields}
use Rattle.mapdefs.specs.declared.map.MapFields.{MapFields}
use Rattle.mapdefs.specs.declared.style.StyleFields.{StyleFields}
use Rattle.mapdefs.specs.declared.symbol.Symbol.{Symbol}
use Rattle.mapdefs.specs.declared.symbol.SymbolShape.{SymbolShape}
use Rattle.mapdefs.specs.declared.symbol.SymbolShape.TheVariants as symbol
use Rattle.strokes.specs.Disc.{DiscValue, disc_of, ring_of}
use Rattle.strokes.specs.Line.{line_of}
use Rattle.strokes.specs.Round.{round_line}
use Rattle.moves.specs.Moves.{disc_from, pixel_from, point_from, points_from}
use Rattle.moves.proofs.Edges.{pixel-of}
use Rattle.moves.proofs.Lines.{lines-are-moved}
use Rattle.moves.proofs.Lists.{flat_map-each, flat_map-moved}
use Rattle.moves.proofs.Rounds.{round_lines-are-moved}
use Rattle.viewport.specs.View.{ViewValue, block_of, device_point, height_of, points_of, sixteenths, whole_of}
use Rattle.viewport.specs.declared.fine.Stretch.{Stretch}
use Rattle.canvas.specs.Shapes.{PaintedShape, Written, discs, fills, line_by, marks, stamps, strokes}
use Rattle.canvas.specs.Shapes as shape
use Rattle.inking.specs.Styles.{line_shapes, point_shapes, symbol_shapes}
use Rattle.compose.specs.Blocks.{BlocksAreParts, BlocksPaintParts, BlocksPaintTheSame, IsBlockOf, PaintedBlocksAreBlocks, corner_of, label_from, shape_from, whole_colour}
use Rattle.compose.specs.Labels.{candidate_list, candidate_shapes, ink_list, inks, label_shapes, outlines, reach_of, text_shapes}
use Rattle.labelink.specs.declared.reach.Reach.{Reach}
use Rattle.compose.specs.Paint.{chosen_shapes, class_shapes, feature_shapes, layer_shapes, paint_list, parts_of, polygon_shapes, style_shapes}
use Rattle.canvas.specs.Painted.{IsPainted, colour_at}
use Rattle.canvas.proofs.Painting.{painted-area, painted-pixels}
use Rattle.compose.proofs.MovedShapes.{colour_at-moved}
use Rattle.mapdefs.specs.declared.picture.PictureFields.{PictureFields}

-- filled rings, lines, squares, discs and stamps
fills-moved : (c : PixelValue) (rings : List (List DevicePoint)) (colour : Option Rgb) → fills (points_from c rings) colour ≡ map (shape_from c) (fills rings colour)
fills-moved c rings None = refl
fills-moved c rings (Some colour) = refl

line_by-moved : (c : PixelValue) (factor : ℕ) (parts : List (List DevicePoint)) (closed : Bool) (width : ℕ) (colour : Rgb) →
    line_by factor (points_from c parts) closed width colour ≡ shape_from c (line_by factor parts closed width colour)
line_by-moved c factor parts closed width colour = go (nat_lt 1 factor)
  where
    go : (t : Bool) →
        (if t then shape.RoundStroke (round_line (points_from c parts) closed (factor * width)) colour else shape.Stroke (line_of (points_from c parts) closed (factor * width)) colour)
        ≡ shape_from c (if t then shape.RoundStroke (round_line parts closed (factor * width)) colour else shape.Stroke (line_of parts closed (factor * width)) colour)
    go true = ap (λ segments. shape.RoundStroke segments colour) (round_lines-are-moved c parts closed (factor * width))
    go false = ap (λ l. shape.Stroke l colour) (lines-are-moved c parts closed (factor * width))

strokes-moved : (c : PixelValue) (factor : ℕ) (parts : List (List DevicePoint)) (closed : Bool) (width : ℕ) (colour : Option Rgb) →
    strokes (line_by factor (points_from c parts) closed width) colour ≡ map (shape_from c) (strokes (line_by factor parts closed width) colour)
strokes-moved c factor parts closed width None = refl
strokes-moved c factor parts closed width (Some colour) = ap (λ (s : PaintedShape). s ∷ []) (line_by-moved c factor parts closed width colour)

-- a list that is there for an option, and one that is there for a test
option-moved : {X A B : Type 0} (h : A → B) (f : X → List B) (g : X → List A) → ((x : X) → f x ≡ map h (g x)) → (o : Option X) →
    option_map_or f o [] ≡ map h (option_map_or g o [])
option-moved h f g same None = refl
option-moved h f g same (Some x) = same x

test-moved : {A B : Type 0} (h : A → B) (b : Bool) (xs : List B) (ys : List A) → xs ≡ map h ys → (if b then xs else []) ≡ map h (if b then ys else [])
test-moved h true xs ys same = same
test-moved h false xs ys same = refl

append-moved : {A B : Type 0} (h : A → B) (xs ys : List B) (ps qs : List A) → xs ≡ map h ps → ys ≡ map h qs → xs ++ ys ≡ map h (ps ++ qs)
append-moved h xs ys ps qs e f = ap (λ zs. zs ++ ys) e ∙ (ap (λ zs. map h ps ++ zs) f ∙ sym (map-append h ps qs))

map-each : {A B C : Type 0} (f : A → C) (h : B → C) (k : A → B) → ((x : A) → f x ≡ h (k x)) → (xs : List A) → map f xs ≡ map h (map k xs)
map-each f h k same [] = refl
map-each f h k same (x ∷ xs) = rw (same x, map-each f h k same xs) refl

-- what a style paints round a point
abbrev shapes_at : ℕ → List Symbol → StyleFields → Option ℕ → DevicePoint → List PaintedShape
shapes_at factor symbols style symbol at = elim symbol [
  | Some index ↦ option_map_or (λ (s : Symbol). symbol_shapes factor style at s.shape) (slice_get symbols index) []
  | None ↦ marks (record { pixel = pixel_of at; size = factor * style.size }) style.colour
]

discs-moved : (c : PixelValue) (d : DiscValue) (colour : Option Rgb) → discs (disc_from c d) colour ≡ map (shape_from c) (discs d colour)
discs-moved c d None = refl
discs-moved c d (Some colour) = refl

symbol-moved : (c : PixelValue) (factor : ℕ) (style : StyleFields) (at : DevicePoint) (s : SymbolShape) →
    symbol_shapes factor style (point_from c at) s ≡ map (shape_from c) (symbol_shapes factor style at s)
symbol-moved c factor style at symbol.Disc =
    let disc : DiscValue = disc_of at (factor * style.size) in
    let ring : DiscValue = ring_of at (factor * style.size) (factor * style.width) in
    append-moved (shape_from c) (discs (disc_from c disc) style.colour) (discs (disc_from c ring) style.outline) (discs disc style.colour) (discs ring style.outline)
    (discs-moved c disc style.colour) (discs-moved c ring style.outline)
symbol-moved c factor style at (symbol.Pixmap pixmap) = ap (λ (pixel : PixelValue). stamps pixel pixmap) (pixel-of c at)

shapes_at-moved : (c : PixelValue) (factor : ℕ) (symbols : List Symbol) (style : StyleFields) (symbol : Option ℕ) (at : DevicePoint) →
    shapes_at factor symbols style symbol (point_from c at) ≡ map (shape_from c) (shapes_at factor symbols style symbol at)
shapes_at-moved c factor symbols style (Some index) at =
    option-moved (shape_from c) (λ (s : Symbol). symbol_shapes factor style (point_from c at) s.shape) (λ (s : Symbol). symbol_shapes factor style at s.shape)
    (λ s. symbol-moved c factor style at s.shape) (slice_get symbols index)
shapes_at-moved c factor symbols style None at = ap (λ (pixel : PixelValue). marks (record { pixel = pixel; size = factor * style.size }) style.colour) (pixel-of c at) ∙ square_at (pixel_of at) style.colour
  where
    square_at : (pixel : PixelValue) (colour : Option Rgb) →
        marks (record { pixel = pixel_from c pixel; size = factor * style.size }) colour ≡ map (shape_from c) (marks (record { pixel = pixel; size = factor * style.size }) colour)
    square_at pixel None = refl
    square_at pixel (Some colour) = refl

same-point : (x y x' y' : ℤ) → x ≡ x' → y ≡ y' → ◌≡◌ {A = DevicePoint} (record { x = x; y = y }) (record { x = x'; y = y' })
same-point x y x' y' e f = rw (e, f) refl

-- so many sixteenths less are none less, and then so many pixels less
less-none : (x : ℤ) (n : ℕ) → x -ℤ pos (16 * n) ≡ (x -ℤ pos (16 * 0)) -ℤ pos 16 *ℤ pos n
less-none x n = omega (arith, ints)

-- a block of a view
module _ (view : ViewValue) (across down : Stretch) where
  abbrev block : ViewValue
  block = block_of view across down

  abbrev whole : ViewValue
  whole = whole_of view

  abbrev corner : PixelValue
  corner = corner_of block

  point-moved : (p : Place) → device_point block p ≡ point_from corner (device_point whole p)
  point-moved p =
      same-point (device_point block p).x (device_point block p).y (point_from corner (device_point whole p)).x (point_from corner (device_point whole p)).y
      (less-none (sixteenths view.columns (p.x -ℤ view.area.minx) (view.area.maxx -ℤ view.area.minx)) across.first)
      (less-none (sixteenths view.rows (view.area.maxy -ℤ height_of view.heights p.y) (view.area.maxy -ℤ view.area.miny)) down.first)

  pixel-moved : (p : Place) → pixel_of (device_point block p) ≡ pixel_from corner (pixel_of (device_point whole p))
  pixel-moved p = ap pixel_of (point-moved p) ∙ pixel-of corner (device_point whole p)

  points-moved : (parts : List (List Place)) → points_of block parts ≡ points_from corner (points_of whole parts)
  points-moved parts =
      map-each (map (device_point block)) (map (point_from corner)) (map (device_point whole))
      (λ part. map-each (device_point block) (point_from corner) (device_point whole) point-moved part) parts

  module _ (symbols : List Symbol) (feature : FeatureFields) where
    polygon-moved : (style : StyleFields) →
        polygon_shapes view.factor (parts_of block feature) style ≡ map (shape_from corner) (polygon_shapes view.factor (parts_of whole feature) style)
    polygon-moved style =
        let rings = parts_of whole feature in
        ap (λ points. polygon_shapes view.factor points style) (points-moved feature.parts)
        ∙ append-moved (shape_from corner) (fills (points_from corner rings) style.colour) (strokes (line_by view.factor (points_from corner rings) true style.width) style.outline)
        (fills rings style.colour) (strokes (line_by view.factor rings true style.width) style.outline)
        (fills-moved corner rings style.colour) (strokes-moved corner view.factor rings true style.width style.outline)

    line-moved : (style : StyleFields) → line_shapes view.factor (parts_of block feature) style ≡ map (shape_from corner) (line_shapes view.factor (parts_of whole feature) style)
    line-moved style =
        ap (λ parts. line_shapes view.factor parts style) (points-moved feature.parts)
        ∙ strokes-moved corner view.factor (parts_of whole feature) false style.width style.colour

    place-moved : (style : StyleFields) (p : Place) → point_shapes block symbols style p ≡ map (shape_from corner) (point_shapes whole symbols style p)
    place-moved style p =
        ap (shapes_at view.factor symbols style style.symbol) (point-moved p)
        ∙ shapes_at-moved corner view.factor symbols style style.symbol (device_point whole p)

    style-moved : (k : Geometry) (style : StyleFields) → style_shapes block symbols k feature style ≡ map (shape_from corner) (style_shapes whole symbols k feature style)
    style-moved kind.Polygon style = polygon-moved style
    style-moved kind.Line style = line-moved style
    style-moved kind.Point style =
        flat_map-each (λ part. flat_map (point_shapes block symbols style) part) (shape_from corner) (λ part. flat_map (point_shapes whole symbols style) part)
        (λ part. flat_map-each (point_shapes block symbols style) (shape_from corner) (point_shapes whole symbols style) (place-moved style) part) feature.parts

    class-moved : (k : Geometry) (class : ClassFields) → class_shapes block symbols k feature class ≡ map (shape_from corner) (class_shapes whole symbols k feature class)
    class-moved k class = flat_map-each (style_shapes block symbols k feature) (shape_from corner) (style_shapes whole symbols k feature) (style-moved k) class.styles

  module _ (scale : PictureScale) (symbols : List Symbol) (layer : LayerFields) where
    feature-moved : (feature : FeatureFields) → feature_shapes block scale symbols layer feature ≡ map (shape_from corner) (feature_shapes whole scale symbols layer feature)
    feature-moved feature =
        option-moved (shape_from corner) (class_shapes block symbols layer.kind feature) (class_shapes whole symbols layer.kind feature)
        (class-moved symbols feature layer.kind) (class_of scale layer feature)

    layer-moved : layer_shapes block scale symbols layer ≡ map (shape_from corner) (layer_shapes whole scale symbols layer)
    layer-moved =
        test-moved (shape_from corner) (is_visible_layer scale layer) (flat_map (feature_shapes block scale symbols layer) layer.features) (flat_map (feature_shapes whole scale symbols layer) layer.features)
        (flat_map-each (feature_shapes block scale symbols layer) (shape_from corner) (feature_shapes whole scale symbols layer) feature-moved layer.features)

  pub list-moved : (scale : PictureScale) (m : MapFields) (chosen : List ℕ) → paint_list block scale m chosen ≡ map (shape_from corner) (paint_list whole scale m chosen)
  list-moved scale m chosen =
      flat_map-each (chosen_shapes block scale m) (shape_from corner) (chosen_shapes whole scale m)
      (λ index. option-moved (shape_from corner) (layer_shapes block scale m.symbols) (layer_shapes whole scale m.symbols) (layer-moved scale m.symbols) (slice_get m.layers index)) chosen

pub blocks-paint-the-same : BlocksPaintTheSame
blocks-paint-the-same view across down scale m chosen = list-moved view across down scale m chosen

-- the ink of a text at a pixel
outlines-moved : (c : PixelValue) (w : Written) (reach : Reach) (colour : Option Rgb) → outlines (record w { at = pixel_from c w.at }) reach colour ≡ map (shape_from c) (outlines w reach colour)
outlines-moved c w reach None = refl
outlines-moved c w reach (Some colour) = refl

inks-moved : (c : PixelValue) (w : Written) (colour : Option Rgb) → inks (record w { at = pixel_from c w.at }) colour ≡ map (shape_from c) (inks w colour)
inks-moved c w None = refl
inks-moved c w (Some colour) = refl

text-moved : (c : PixelValue) (candidate : CandidateValue) (at : PixelValue) (font : FontFields) →
    text_shapes candidate (pixel_from c at) font ≡ map (shape_from c) (text_shapes candidate at font)
text-moved c candidate at font =
    let w : Written = record { font = font; characters = chars candidate.text; at = at } in
    append-moved (shape_from c) (outlines (record w { at = pixel_from c at }) (reach_of candidate) candidate.label.outline) (inks (record w { at = pixel_from c at }) candidate.label.colour)
    (outlines w (reach_of candidate) candidate.label.outline) (inks w candidate.label.colour)
    (outlines-moved c w (reach_of candidate) candidate.label.outline) (inks-moved c w candidate.label.colour)

candidate-moved : (c : PixelValue) (fonts : List FontFields) (candidate : CandidateValue) (at : PixelValue) →
    candidate_shapes fonts candidate (pixel_from c at) ≡ map (shape_from c) (candidate_shapes fonts candidate at)
candidate-moved c fonts candidate at =
    option-moved (shape_from c) (text_shapes candidate (pixel_from c at)) (text_shapes candidate at) (text-moved c candidate at) (label_font fonts candidate.label)

label-moved : (c : PixelValue) (fonts : List FontFields) (candidates : List CandidateValue) (label : Placed) →
    label_shapes fonts candidates (label_from c label) ≡ map (shape_from c) (label_shapes fonts candidates label)
label-moved c fonts candidates label =
    option-moved (shape_from c) (λ candidate. candidate_shapes fonts candidate (pixel_from c label.at)) (λ candidate. candidate_shapes fonts candidate label.at)
    (λ candidate. candidate-moved c fonts candidate label.at) (slice_get candidates label.number)

pub ink-moved : (c : PixelValue) (fonts : List FontFields) (candidates : List CandidateValue) (labels : List Placed) →
    ink_list fonts candidates (map (label_from c) labels) ≡ map (shape_from c) (ink_list fonts candidates labels)
ink-moved c fonts candidates labels =
    flat_map-moved (label_shapes fonts candidates) (label_from c) (shape_from c) (label_shapes fonts candidates) (label-moved c fonts candidates) labels

pub blocks-paint-parts : BlocksPaintParts
blocks-paint-parts view across down scale m chosen background i j =
    ap (λ shapes. colour_at background shapes i j) (list-moved view across down scale m chosen)
    ∙ colour_at-moved across.first down.first background (paint_list (whole_of view) scale m chosen) i j

pub blocks-are-parts : BlocksAreParts
blocks-are-parts view across down scale m chosen candidates labels background i j =
    let c : PixelValue = corner_of (block_of view across down) in
    ap (λ shapes. colour_at background shapes i j)
    (append-moved (shape_from c) (paint_list (block_of view across down) scale m chosen) (ink_list m.fonts candidates (map (label_from c) labels))
    (paint_list (whole_of view) scale m chosen) (ink_list m.fonts candidates labels)
    (list-moved view across down scale m chosen) (ink-moved c m.fonts candidates labels))
    ∙ colour_at-moved across.first down.first background (paint_list (whole_of view) scale m chosen ++ ink_list m.fonts candidates labels) i j

-- an element by its row and its column, where the width is known otherwise
by-width : {X : Type 0} (xs : List X) (w w' i j : ℕ) (x : Option X) → w ≡ w' → slice_get xs (j * w + i) ≡ x → slice_get xs (j * w' + i) ≡ x
by-width xs w w' i j x e h = rw (← e) h

-- a picture that is painted over with what a block has is the block
painted-block : (view : ViewValue) (across down : Stretch) (scale : PictureScale) (m : MapFields) (chosen : List ℕ) (labels : List Placed) (background : Option Rgb) (block : PictureFields) →
    IsPainted (record { width = across.count; height = down.count; pixels = replicate (across.count * down.count) background }) block
    (paint_list (block_of view across down) scale m chosen
    ++ ink_list m.fonts (candidate_list (whole_of view) scale m chosen) (map (label_from (corner_of (block_of view across down))) labels)) →
    IsBlockOf (whole_colour m (whole_of view) scale chosen background labels) across down block
painted-block view across down scale m chosen labels background block painted =
    let candidates = candidate_list (whole_of view) scale m chosen in
    let shapes = paint_list (block_of view across down) scale m chosen ++ ink_list m.fonts candidates (map (label_from (corner_of (block_of view across down))) labels) in
    record {
      width = painted.width;
      height = painted.height;
      area = painted-area (block_of view across down) background shapes block painted;
      pixels = λ i j left up.
          by-width block.pixels across.count block.width i j (Some (whole_colour m (whole_of view) scale chosen background labels (across.first + i) (down.first + j))) (sym painted.width)
          (painted-pixels (block_of view across down) background shapes block painted i j (omega (arith, painted.width)) (omega (arith, painted.height))
          ∙ ap Some (blocks-are-parts view across down scale m chosen candidates labels background i j));
    }

pub painted-blocks-are-blocks : PaintedBlocksAreBlocks
painted-blocks-are-blocks view across down scale m chosen labels background blank block e painted =
    painted-block view across down scale m chosen labels background block (rw e at painted)
