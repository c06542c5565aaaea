-- Points all round a pixel that is painted of a feature.
use Rattle.std.proofs.Common.{◌≡◌, ◌∙◌, ℕ, ◌*◌, ◌<◌, ◌≤◌, max, Bool, true, false, ◌||◌, List, [], ◌∷◌, map, Option, None, Some, refl, sym, arith, ⊎_elim}
use Rattle.std.proofs.Math.Nat.{le-max_left, le-max_right}
use Rattle.std.proofs.lemmas.List.Folds.{list_any-append}
use Rattle.std.specs.List.{Contains, flat_map, list_any, slice_get}
use Rattle.std.specs.Prelude.{if◌then◌else◌, nat_lt}
use Rattle.std.specs.Option.{option_map_or}
use Rattle.canvas.specs.Shapes.{PaintedShape, RoundStroke, Stroke, covers, discs, fills, line_by, marks, strokes}
use Rattle.inking.specs.Styles.{point_shapes, symbol_shapes}
use Rattle.compose.specs.Paint.{class_shapes, parts_of, polygon_shapes, style_shapes}
use lib.IntN.{pos}
use Rattle.geom.specs.Device.{DevicePoint, pixel_centre, pixel_of}
use Rattle.geom.specs.EvenOdd.{is_inside}
use Rattle.geom.specs.World.{Place}
use Rattle.mapdefs.proofs.Containing.{first_or}
use Rattle.scene.specs.Classes.{admits, class_of}
use Rattle.mapdefs.specs.declared.class.ClassFields.{ClassFields}
use Rattle.mapdefs.specs.declared.colour.Rgb.{Rgb}
use Rattle.mapdefs.specs.declared.feature.FeatureFields.{FeatureFields}
use Rattle.mapdefs.specs.declared.layer.Geometry.{Geometry}
use Rattle.mapdefs.specs.declared.layer.Geometry.TheVariants as kind
use Rattle.mapdefs.specs.declared.layer.LayerFields.{LayerFields}
use Rattle.mapdefs.specs.declared.style.StyleFields.{StyleFields}
use Rattle.mapdefs.specs.declared.symbol.Symbol.{Symbol}
use Rattle.mapdefs.specs.declared.symbol.SymbolShape.{SymbolShape}
use Rattle.mapdefs.specs.declared.symbol.SymbolShape.TheVariants as symbol
use Rattle.strokes.proofs.Short.{or-cases}
use Rattle.strokes.specs.Disc.{DiscValue, covers_disc, disc_of, ring_of}
use Rattle.strokes.specs.Line.{line_of}
use Rattle.strokes.specs.Round.{round_line}
use Rattle.strokes.specs.Square.{SquareValue, covers_square}
use Rattle.symbols.specs.Stamp as stamp
use Rattle.viewport.specs.View.{ViewValue, device_point}
use Rattle.mapdefs.specs.Near.{points_of}
use Rattle.compose.specs.Near.{PaintsNear, furthest, margin_of, reach_of, side_of, symbol_reach}
use Rattle.vertices.proofs.NearBoxes.{AreRound, box-in}
use Rattle.vertices.proofs.Finding.{any-flat_map, contains-flat, found-there}
use Rattle.vertices.proofs.NearLines.{line-round}
use Rattle.vertices.proofs.NearRounds.{disc-by, round_line-round}
use Rattle.vertices.proofs.NearShapes.{IsBy, by-round, fill-round, square-by, stamp-by}

-- no style of the list paints further than the furthest
pub reach-furthest : (factor : ℕ) (symbols : List Symbol) (styles : List StyleFields) (style : StyleFields) → Contains styles style → reach_of factor symbols style ≤ furthest factor symbols styles
reach-furthest factor symbols [] style c = absurd (omega (arith, c.1))
reach-furthest factor symbols (s ∷ styles) style c = ⊎_elim
    (λ (e : s ≡ style). rw e (le-max_left (reach_of factor symbols style) (furthest factor symbols styles)))
    (λ (d : Contains styles style). omega (arith, reach-furthest factor symbols styles style d, le-max_right (reach_of factor symbols s) (furthest factor symbols styles)))
    (first_or s style styles c)

-- a list of one shape covers what the shape covers
one-shape : (t : Bool) → (t || false) ≡ true → t ≡ true
one-shape true h = refl
one-shape false h = cc

fills-cover : (rings : List (List DevicePoint)) (colour : Option Rgb) (i j : ℕ) → list_any (λ t. covers t i j) (fills rings colour) ≡ true →
    is_inside rings (pixel_centre (pos i) (pos j)) ≡ true
fills-cover rings None i j h = absurd (cc)
fills-cover rings (Some colour) i j h = one-shape (is_inside rings (pixel_centre (pos i) (pos j))) h

strokes-cover : (line : Rgb → PaintedShape) (colour : Option Rgb) (i j : ℕ) → list_any (λ t. covers t i j) (strokes line colour) ≡ true → (c : Rgb) × (covers (line c) i j ≡ true)
strokes-cover line None i j h = absurd (cc)
strokes-cover line (Some colour) i j h = (colour, one-shape (covers (line colour) i j) h)

marks-cover : (square : SquareValue) (colour : Option Rgb) (i j : ℕ) → list_any (λ t. covers t i j) (marks square colour) ≡ true → covers_square square (pos i) (pos j) ≡ true
marks-cover square None i j h = absurd (cc)
marks-cover square (Some colour) i j h = one-shape (covers_square square (pos i) (pos j)) h

-- a line, stepped or round
strokes-round : (view : ViewValue) (margin : ℕ) (closed : Bool) (width : ℕ) (parts : List (List Place)) (colour : Option Rgb) (i j : ℕ) →
    view.factor * width ≤ margin → i < view.width → j < view.height →
    list_any (λ t. covers t i j) (strokes (line_by view.factor (map (map (device_point view)) parts) closed width) colour) ≡ true → AreRound view margin (flat_map (λ part. part) parts)
strokes-round view margin closed width parts colour i j wide column row h =
    let (c, e) = strokes-cover (line_by view.factor (map (map (device_point view)) parts) closed width) colour i j h in go (nat_lt 1 view.factor) c e
  where
    fine : ℕ
    fine = view.factor * width

    rings : List (List DevicePoint)
    rings = map (map (device_point view)) parts

    go : (t : Bool) (c : Rgb) → covers (if t then RoundStroke (round_line rings closed fine) c else Stroke (line_of rings closed fine) c) i j ≡ true →
        AreRound view margin (flat_map (λ part. part) parts)
    go true c e = round_line-round view margin closed fine parts i j wide column row e
    go false c e = line-round view margin closed fine parts i j wide column row e

-- a polygon
polygon-round : (view : ViewValue) (margin : ℕ) (feature : FeatureFields) (style : StyleFields) (i j : ℕ) → view.factor * style.width ≤ margin → i < view.width → j < view.height →
    list_any (λ t. covers t i j) (polygon_shapes view.factor (parts_of view feature) style) ≡ true → AreRound view margin (points_of feature)
polygon-round view margin feature style i j wide column row h =
    let rings : List (List DevicePoint) = parts_of view feature in
    let first : List PaintedShape = fills rings style.colour in
    let second : List PaintedShape = strokes (line_by view.factor rings true style.width) style.outline in
    ⊎_elim
    (λ (e : list_any (λ t. covers t i j) first ≡ true). fill-round view margin feature.parts i j column row (fills-cover rings style.colour i j e))
    (λ (e : list_any (λ t. covers t i j) second ≡ true). strokes-round view margin true style.width feature.parts style.outline i j wide column row e)
    (or-cases (list_any (λ t. covers t i j) first) (list_any (λ t. covers t i j) second) (sym (list_any-append (λ t. covers t i j) first second) ∙ h))

-- a disc or a ring at a point
disc-cover : (view : ViewValue) (margin : ℕ) (d : DiscValue) (colour : Option Rgb) (i j : ℕ) → d.size ≤ margin → i < view.width → j < view.height →
    list_any (λ t. covers t i j) (discs d colour) ≡ true → IsBy view margin d.at
disc-cover view margin d None i j wide column row h = absurd (cc)
disc-cover view margin d (Some colour) i j wide column row h = disc-by view margin d i j wide column row (one-shape (covers_disc d (pixel_centre (pos i) (pos j))) h)

-- what a symbol draws at a point
shape-by : (view : ViewValue) (margin : ℕ) (style : StyleFields) (v : DevicePoint) (i j : ℕ) (s : SymbolShape) → view.factor * style.size ≤ margin → side_of s ≤ margin →
    i < view.width → j < view.height → list_any (λ t. covers t i j) (symbol_shapes view.factor style v s) ≡ true → IsBy view margin v
shape-by view margin style v i j symbol.Disc wide high column row h =
    let first : List PaintedShape = discs (disc_of v (view.factor * style.size)) style.colour in
    let second : List PaintedShape = discs (ring_of v (view.factor * style.size) (view.factor * style.width)) style.outline in
    ⊎_elim
    (λ (e : list_any (λ t. covers t i j) first ≡ true). disc-cover view margin (disc_of v (view.factor * style.size)) style.colour i j wide column row e)
    (λ (e : list_any (λ t. covers t i j) second ≡ true). disc-cover view margin (ring_of v (view.factor * style.size) (view.factor * style.width)) style.outline i j wide column row e)
    (or-cases (list_any (λ t. covers t i j) first) (list_any (λ t. covers t i j) second) (sym (list_any-append (λ t. covers t i j) first second) ∙ h))
shape-by view margin style v i j (symbol.Pixmap pixmap) wide high column row h =
    stamp-by view margin v pixmap i j (omega (arith, high, le-max_left pixmap.width pixmap.height)) (omega (arith, high, le-max_right pixmap.width pixmap.height)) column row
    (one-shape (stamp.covers_pixel (record { pixmap = pixmap; pixel = pixel_of v }) (pos i) (pos j)) h)

-- a symbol at a point
symbol-by : (view : ViewValue) (margin : ℕ) (style : StyleFields) (v : DevicePoint) (i j : ℕ) (found : Option Symbol) → view.factor * style.size ≤ margin →
    option_map_or (λ (s : Symbol). side_of s.shape) found 0 ≤ margin → i < view.width → j < view.height →
    list_any (λ t. covers t i j) (option_map_or (λ (s : Symbol). symbol_shapes view.factor style v s.shape) found []) ≡ true → IsBy view margin v
symbol-by view margin style v i j None wide high column row h = absurd (cc)
symbol-by view margin style v i j (Some s) wide high column row h = shape-by view margin style v i j s.shape wide high column row h

-- a point
point-by : (view : ViewValue) (margin : ℕ) (symbols : List Symbol) (style : StyleFields) (v : DevicePoint) (named : Option ℕ) (i j : ℕ) →
    view.factor * style.size ≤ margin → symbol_reach symbols named ≤ margin → i < view.width → j < view.height →
    list_any (λ t. covers t i j) (elim named [
      | Some index ↦ option_map_or (λ (s : Symbol). symbol_shapes view.factor style v s.shape) (slice_get symbols index) []
      | None ↦ marks (record { pixel = pixel_of v; size = view.factor * style.size }) style.colour
    ]) ≡ true → IsBy view margin v
point-by view margin symbols style v None i j wide high column row h =
    square-by view margin v (view.factor * style.size) i j wide column row (marks-cover (record { pixel = pixel_of v; size = view.factor * style.size }) style.colour i j h)
point-by view margin symbols style v (Some index) i j wide high column row h = symbol-by view margin style v i j (slice_get symbols index) wide high column row h

-- the points of a feature, one of which is painted by a style
points-round : (view : ViewValue) (margin : ℕ) (symbols : List Symbol) (feature : FeatureFields) (style : StyleFields) (i j : ℕ) →
    view.factor * style.size ≤ margin → symbol_reach symbols style.symbol ≤ margin → i < view.width → j < view.height →
    list_any (λ t. covers t i j) (flat_map (λ part. flat_map (point_shapes view symbols style) part) feature.parts) ≡ true → AreRound view margin (points_of feature)
points-round view margin symbols feature style i j wide high column row h =
    let (part, among, e) = any-flat_map (λ t. covers t i j) (λ (part : List Place). flat_map (point_shapes view symbols style) part) feature.parts h in
    let (q, there, f) = any-flat_map (λ t. covers t i j) (point_shapes view symbols style) part e in
    by-round view margin (points_of feature) q (contains-flat (λ (part : List Place). part) feature.parts part q among there)
    (point-by view margin symbols style (device_point view q) style.symbol i j wide high column row f)

-- the width of a style is no more than its reach
width-within : (factor : ℕ) (symbols : List Symbol) (style : StyleFields) (margin : ℕ) → reach_of factor symbols style ≤ margin → factor * style.width ≤ margin
width-within factor symbols style margin most =
    let width = factor * style.width in
    let both = max width (factor * style.size) in
    omega (arith, most, le-max_left both (symbol_reach symbols style.symbol), le-max_left width (factor * style.size))

-- what a style paints of a feature of any kind
style-round : (view : ViewValue) (margin : ℕ) (symbols : List Symbol) (k : Geometry) (feature : FeatureFields) (style : StyleFields) (i j : ℕ) →
    reach_of view.factor symbols style ≤ margin → i < view.width → j < view.height →
    list_any (λ t. covers t i j) (style_shapes view symbols k feature style) ≡ true → AreRound view margin (points_of feature)
style-round view margin symbols kind.Polygon feature style i j most column row h =
    let wide : view.factor * style.width ≤ margin = width-within view.factor symbols style margin most in
    polygon-round view margin feature style i j wide column row h
style-round view margin symbols kind.Line feature style i j most column row h =
    let wide : view.factor * style.width ≤ margin = width-within view.factor symbols style margin most in
    strokes-round view margin false style.width feature.parts style.colour i j wide column row h
style-round view margin symbols kind.Point feature style i j most column row h =
    let size = view.factor * style.size in
    let both = max (view.factor * style.width) size in
    let wide : size ≤ margin = omega (arith, most, le-max_left both (symbol_reach symbols style.symbol), le-max_right (view.factor * style.width) size) in
    let high : symbol_reach symbols style.symbol ≤ margin = omega (arith, most, le-max_right both (symbol_reach symbols style.symbol)) in
    points-round view margin symbols feature style i j wide high column row h

-- what its class paints, if it has one
classed-round : (view : ViewValue) (symbols : List Symbol) (layer : LayerFields) (feature : FeatureFields) (class : Option ClassFields) (i j : ℕ) →
    ((c : ClassFields) → class ≡ Some c → Contains layer.classes c) → i < view.width → j < view.height →
    list_any (λ t. covers t i j) (option_map_or (class_shapes view symbols layer.kind feature) class []) ≡ true → AreRound view (margin_of view.factor symbols layer) (points_of feature)
classed-round view symbols layer feature None i j there column row h = absurd (cc)
classed-round view symbols layer feature (Some class) i j there column row h =
    let (style, among, e) = any-flat_map (λ t. covers t i j) (style_shapes view symbols layer.kind feature) class.styles h in
    style-round view (margin_of view.factor symbols layer) symbols layer.kind feature style i j
    (reach-furthest view.factor symbols (flat_map (λ (c : ClassFields). c.styles) layer.classes) style
    (contains-flat (λ (c : ClassFields). c.styles) layer.classes class style (there class refl) among)) column row e

-- the law
pub paints-near : PaintsNear
paints-near view scale symbols layer feature i j limits column row h =
    box-in view (margin_of view.factor symbols layer) (points_of feature) limits
    (classed-round view symbols layer feature (class_of scale layer feature) i j
    (λ c e. found-there (admits scale layer feature) layer.classes c e) column row h)
