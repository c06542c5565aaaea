-- Painting a line from vertex to vertex.
use Rattle.std.proofs.Common.{◌≡◌, ◌∙◌, ℕ, ◌*◌, ◌/◌, ◌%◌, ◌<◌, ◌≤◌, Bool, true, false, ◌||◌, cond, List, [], ◌∷◌, map, length, take, take_all, Option, Some, refl, sym, ap, arith, ⊎_elim}
use Rattle.std.proofs.lemmas.Bool.{and_parts, false≢true, or_right}
use Rattle.std.proofs.lemmas.Int.{ints}
use Rattle.std.specs.Prelude.{int_le, nat_lt}
use Rattle.geom.proofs.Products.{le_of}
use Rattle.strokes.specs.Short.{are_abreast, are_close, are_neighbours}
use Rattle.strokes.proofs.Short.{or-cases}
use Rattle.std.proofs.lemmas.List.Folds.{list_any-append}
use Rattle.std.specs.List.{flat_map, list_any}
use lib.IntN.{ℤ, pos, ◌+ℤ◌, ◌-ℤ◌}
use Rattle.geom.specs.Device.{DevicePoint, PixelValue, pixel_centre, pixel_of}
use Rattle.geom.specs.EvenOdd.{edge_between}
use Rattle.geom.specs.World.{Area, Place}
use Rattle.mapdefs.specs.declared.colour.Rgb.{Rgb}
use Rattle.mapdefs.specs.declared.picture.PictureFields.{PictureFields}
use Rattle.strokes.specs.Line.{covers_centre, covers_pixel, line_of, segment_along, segments_of, square_at}
use Rattle.strokes.specs.Round.{round_line}
use Rattle.strokes.specs.Round as round
use Rattle.strokes.specs.Segment.{covers_segment}
use Rattle.strokes.specs.Square.{covers_square}
use Rattle.strokes.proofs.Sequences.{nothing}
use Rattle.strokes.proofs.Parts.{edges_of-following, following}
use Rattle.viewport.specs.View.{ViewValue, device_point}
use Rattle.canvas.specs.Shapes.{RoundStroke, Stroke, line_by}
use Rattle.canvas.specs.Painted.{IsFilled, IsPainted, colour_of}
use Rattle.inking.specs.declared.trail.Trail.{Trail}
use Rattle.inking.specs.Stroked.{HasAlready, IsOf, IsQuiet, IsTrail, PenValue, has_place, part_covers, pen_covers, rest_covers, segment_covers, step_covers, vertex_covers}
use Rattle.canvas.proofs.Painting.{painted-shape}
use Rattle.canvas.proofs.Filling.{column-below, filled-either, filled-nothing, filled-same, row-below}

-- what a test fills has its colour then
held : {X : Type 0} (t : Bool) (x y z : X) → z ≡ cond t x y → z ≡ cond t x z
held true x y z e = e
held false x y z e = refl

pub filled-already : (test : ℕ → ℕ → Bool) (colour : ℕ → ℕ → Option Rgb) (a b : PictureFields) → IsFilled test colour a b → IsFilled test colour b b
filled-already test colour a b f = record {
  width = refl;
  height = refl;
  area = refl;
  filled = λ at h.
      rw f.width
      (held (test (at % a.width) (at / a.width)) (colour (at % a.width) (at / a.width)) (colour_of a.pixels at) (colour_of b.pixels at) (f.filled at (omega (arith, f.area))));
}

-- what passes a test with its colour, passes a weaker one with it
pub already-less : (s t : ℕ → ℕ → Bool) (colour : ℕ → ℕ → Option Rgb) (a : PictureFields) → length a.pixels ≡ a.width * a.height →
    ((i j : ℕ) → i < a.width → j < a.height → s i j ≡ true → t i j ≡ true) → IsFilled t colour a a → IsFilled s colour a a
already-less s t colour a area less f = record {
  width = refl;
  height = refl;
  area = refl;
  filled = λ at h.
      pick (s (at % a.width) (at / a.width)) (t (at % a.width) (at / a.width)) (colour (at % a.width) (at / a.width)) (colour_of a.pixels at)
      (less (at % a.width) (at / a.width) (column-below a at area h) (row-below a at area h)) (f.filled at h);
}
  where
    pick : {X : Type 0} (s t : Bool) (x z : X) → (s ≡ true → t ≡ true) → z ≡ cond t x z → z ≡ cond s x z
    pick true t x z imp e = rw (imp refl) at e
    pick false t x z imp e = refl

-- a picture that is filled has the sides and the area that it had
pub filled-area : (test : ℕ → ℕ → Bool) (colour : ℕ → ℕ → Option Rgb) (a b : PictureFields) → IsFilled test colour a b → length a.pixels ≡ a.width * a.height →
    length b.pixels ≡ b.width * b.height
filled-area test colour a b f area = f.area ∙ (area ∙ rw (f.width, f.height) refl)

pub filled-of : (pen : PenValue) (test : ℕ → ℕ → Bool) (colour : ℕ → ℕ → Option Rgb) (a b : PictureFields) → IsFilled test colour a b → IsOf pen a → IsOf pen b
filled-of pen test colour a b f is = record { columns = f.width ∙ is.columns; rows = f.height ∙ is.rows }

-- a short segment adds nothing to the squares round its ends, of which the first is painted
pub filled-short : (segment a b : ℕ → ℕ → Bool) (colour : ℕ → ℕ → Option Rgb) (old new : PictureFields) → ((i j : ℕ) → segment i j ≡ true → (a i j || b i j) ≡ true) →
    IsFilled a colour old old → IsFilled b colour old new → IsFilled (λ i j. segment i j || b i j) colour old new
filled-short segment a b colour old new short f g = record {
  width = g.width;
  height = g.height;
  area = g.area;
  filled = λ at h.
      let i = at % old.width in
      let j = at / old.width in
      pick (segment i j) (a i j) (b i j) (colour i j) (colour_of old.pixels at) (colour_of new.pixels at) (short i j) (f.filled at h) (g.filled at h);
}
  where
    pick : {X : Type 0} (s a b : Bool) (x y z : X) → (s ≡ true → (a || b) ≡ true) → y ≡ cond a x y → z ≡ cond b x y → z ≡ cond (s || b) x y
    pick true a true x y z imp e g = g
    pick false a b x y z imp e g = g
    pick true true false x y z imp e g = g ∙ e
    pick true false false x y z imp e g = absurd (false≢true (imp refl))

-- the step from a place to itself covers the square round it
self-step : (pen : PenValue) (place : Place) (i j : ℕ) → pen_covers pen place place i j ≡ vertex_covers pen.width (device_point pen.view place) i j
self-step pen place i j = rw (nothing pen.width (device_point pen.view place) (pixel_centre (pos i) (pos j))) refl

-- a line that has come to a place round which the square is painted
pub trail-of : (pen : PenValue) (canvas : PictureFields) (place : Place) (box : Area) → has_place box place ≡ true → IsQuiet pen place box → IsOf pen canvas →
    length canvas.pixels ≡ canvas.width * canvas.height → HasAlready pen canvas (vertex_covers pen.width (device_point pen.view place)) → IsTrail pen canvas (record { from = place; quiet = box })
trail-of pen canvas place box has quiet is area f = record {
  on = has;
  quiet = λ a b p q.
      already-less (pen_covers pen a b) (vertex_covers pen.width (device_point pen.view place)) (λ i j. Some pen.colour) canvas area
      (λ i j column row covers. sym (self-step pen place i j) ∙ quiet a b p q i j (omega (arith, is.columns)) (omega (arith, is.rows)) covers) f;
}

-- after a step the square round its second vertex is painted
pub vertex-after : (pen : PenValue) (from to : DevicePoint) (old new : PictureFields) → length new.pixels ≡ new.width * new.height →
    IsFilled (step_covers pen.width from to) (λ i j. Some pen.colour) old new → HasAlready pen new (vertex_covers pen.width to)
vertex-after pen from to old new area f =
    already-less (vertex_covers pen.width to) (step_covers pen.width from to) (λ i j. Some pen.colour) new area
    (λ i j column row h. or_right (covers_segment pen.width (edge_between (from, to)) (pixel_centre (pos i) (pos j))) (vertex_covers pen.width to i j) h)
    (filled-already (step_covers pen.width from to) (λ i j. Some pen.colour) old new f)

-- and before one, that round its first
pub vertex-before : (pen : PenValue) (canvas : PictureFields) (trail : Trail) → length canvas.pixels ≡ canvas.width * canvas.height → IsTrail pen canvas trail →
    HasAlready pen canvas (vertex_covers pen.width (device_point pen.view trail.from))
vertex-before pen canvas trail area is =
    already-less (vertex_covers pen.width (device_point pen.view trail.from)) (pen_covers pen trail.from trail.from) (λ i j. Some pen.colour) canvas area
    (λ i j column row h. self-step pen trail.from i j ∙ h) (is.quiet trail.from trail.from is.on is.on)

-- a vertex in the quiet box is skipped
pub trail-by : (pen : PenValue) (canvas : PictureFields) (trail : Trail) (to : Place) → has_place trail.quiet to ≡ true → IsTrail pen canvas trail →
    IsTrail pen canvas (record { from = to; quiet = trail.quiet })
trail-by pen canvas trail to has is = record { on = has; quiet = is.quiet }

-- one of some truth values, however they are joined
or-end : (c f : Bool) → (((c || false) || false) || f) ≡ (f || (c || f))
or-end true true = refl
or-end true false = refl
or-end false true = refl
or-end false false = refl

or-none : (f : Bool) → f ≡ (f || false)
or-none true = refl
or-none false = refl

or-next : (c s l t f r : Bool) → ((l || t) || f) ≡ (f || r) → (((c || l) || (s || t)) || f) ≡ (f || ((c || s) || r))
or-next true s l t true r e = refl
or-next true s l t false r e = refl
or-next false true true t true r e = refl
or-next false true true t false r e = refl
or-next false true false t true r e = refl
or-next false true false t false r e = refl
or-next false false l t f r e = e

or-first : (l f s : Bool) → (l || (f || s)) ≡ ((l || s) || f)
or-first true f s = refl
or-first false true true = refl
or-first false true false = refl
or-first false false true = refl
or-first false false false = refl

-- the steps from a vertex on cover what the remaining segments and squares do, and the first square once more
steps : (closed : Bool) (w : ℕ) (first from : DevicePoint) (rest : List DevicePoint) (i j : ℕ) →
    ((list_any (covers_centre (pos i) (pos j)) (map (segment_along w) (following closed first from rest)) || list_any (λ s. covers_square s (pos i) (pos j)) (map (square_at w) rest))
    || vertex_covers w first i j) ≡ (vertex_covers w first i j || rest_covers closed w first from rest i j)
steps true w first from [] i j = or-end (covers_segment w (edge_between (from, first)) (pixel_centre (pos i) (pos j))) (vertex_covers w first i j)
steps false w first from [] i j = or-none (vertex_covers w first i j)
steps closed w first from (to ∷ rest) i j =
    or-next (covers_segment w (edge_between (from, to)) (pixel_centre (pos i) (pos j))) (vertex_covers w to i j)
    (list_any (covers_centre (pos i) (pos j)) (map (segment_along w) (following closed first to rest))) (list_any (λ s. covers_square s (pos i) (pos j)) (map (square_at w) rest))
    (vertex_covers w first i j) (rest_covers closed w first to rest i j) (steps closed w first to rest i j)

-- a part is its first square, and the steps from there on
pub part-steps : (closed : Bool) (w : ℕ) (part : List DevicePoint) (first : DevicePoint) (rest : List DevicePoint) → part ≡ first ∷ rest → (i j : ℕ) →
    (vertex_covers w first i j || rest_covers closed w first first rest i j) ≡ part_covers closed w part i j
part-steps closed w part first rest e i j =
    let segments = list_any (covers_centre (pos i) (pos j)) (map (segment_along w) (following closed first first rest)) in
    let squares = list_any (λ s. covers_square s (pos i) (pos j)) (map (square_at w) rest) in
    let same : part_covers closed w part i j ≡ (segments || (vertex_covers w first i j || squares)) =
    rw (edges_of-following closed part first rest e) (ap (λ (points : List DevicePoint). segments || list_any (λ s. covers_square s (pos i) (pos j)) (map (square_at w) points)) e) in
    sym (same ∙ (or-first segments (vertex_covers w first i j) squares ∙ steps closed w first first rest i j))

-- parts one after another are the line along them
or-four : (a b c d : Bool) → ((a || b) || (c || d)) ≡ ((a || c) || (b || d))
or-four true b true d = refl
or-four true b false d = refl
or-four false true true d = refl
or-four false true false d = refl
or-four false false c d = refl

pub parts-line : (closed : Bool) (w : ℕ) (parts : List (List DevicePoint)) (i j : ℕ) →
    list_any (λ part. part_covers closed w part i j) parts ≡ covers_pixel (line_of parts closed w) (pos i) (pos j)
parts-line closed w [] i j = refl
parts-line closed w (part ∷ parts) i j =
    let a = list_any (covers_centre (pos i) (pos j)) (segments_of closed w part) in
    let b = list_any (λ s. covers_square s (pos i) (pos j)) (map (square_at w) part) in
    let c = list_any (covers_centre (pos i) (pos j)) (flat_map (segments_of closed w) parts) in
    let d = list_any (λ s. covers_square s (pos i) (pos j)) (flat_map (map (square_at w)) parts) in
    ap (λ t. (a || b) || t) (parts-line closed w parts i j)
    ∙ (or-four a b c d
    ∙ sym (rw (
      list_any-append (covers_centre (pos i) (pos j)) (segments_of closed w part) (flat_map (segments_of closed w) parts),
      list_any-append (λ s. covers_square s (pos i) (pos j)) (map (square_at w) part) (flat_map (map (square_at w)) parts),
    ) refl))

-- a line is on its way from a vertex: whatever fills the rest of its part, fills the whole
pub record IsOnWay (closed : Bool) (pen : PenValue) (first from : Place) (rest : List Place) (whole : ℕ → ℕ → Bool) (old now : PictureFields) : Type 0 where
  pub sides : IsOf pen now
  pub goes : (new : PictureFields) →
      IsFilled (rest_covers closed pen.width (device_point pen.view first) (device_point pen.view from) (map (device_point pen.view) rest)) (λ i j. Some pen.colour) now new →
      IsFilled whole (λ i j. Some pen.colour) old new

pub way-begin : (closed : Bool) (pen : PenValue) (part : List Place) (first : Place) (rest : List Place) (old now : PictureFields) → part ≡ first ∷ rest → IsOf pen old →
    IsFilled (vertex_covers pen.width (device_point pen.view first)) (λ i j. Some pen.colour) old now →
    IsOnWay closed pen first first rest (part_covers closed pen.width (map (device_point pen.view) part)) old now
way-begin closed pen part first rest old now e is f =
    let at = device_point pen.view in
    let colour : ℕ → ℕ → Option Rgb = λ i j. Some pen.colour in
    record {
      sides = filled-of pen (vertex_covers pen.width (at first)) colour old now f is;
      goes = λ new g.
          filled-same (λ i j. vertex_covers pen.width (at first) i j || rest_covers closed pen.width (at first) (at first) (map at rest) i j) (part_covers closed pen.width (map at part)) colour old new
          (part-steps closed pen.width (map at part) (at first) (map at rest) (ap (map at) e))
          (filled-either (vertex_covers pen.width (at first)) (rest_covers closed pen.width (at first) (at first) (map at rest)) colour old now new f g);
    }

pub way-next : (closed : Bool) (pen : PenValue) (first from to : Place) (rest more : List Place) (whole : ℕ → ℕ → Bool) (old now next : PictureFields) → rest ≡ to ∷ more →
    IsOnWay closed pen first from rest whole old now → IsFilled (pen_covers pen from to) (λ i j. Some pen.colour) now next → IsOnWay closed pen first to more whole old next
way-next closed pen first from to rest more whole old now next e way f =
    let at = device_point pen.view in
    let colour : ℕ → ℕ → Option Rgb = λ i j. Some pen.colour in
    record {
      sides = filled-of pen (pen_covers pen from to) colour now next f way.sides;
      goes = λ new g.
          (rw e at way.goes) new
          (filled-either (pen_covers pen from to) (rest_covers closed pen.width (at first) (at to) (map at more)) colour now next new f g);
    }

-- at its end it closes, or it doesn't
pub way-closed : (closed : Bool) (pen : PenValue) (first from : Place) (rest : List Place) (whole : ℕ → ℕ → Bool) (old now new : PictureFields) → closed ≡ true → rest ≡ [] →
    IsOnWay closed pen first from rest whole old now → IsFilled (pen_covers pen from first) (λ i j. Some pen.colour) now new → IsFilled whole (λ i j. Some pen.colour) old new
way-closed closed pen first from rest whole old now new is e way f = (rw (e, is) at way.goes) new f

pub way-open : (closed : Bool) (pen : PenValue) (first from : Place) (rest : List Place) (whole : ℕ → ℕ → Bool) (old now : PictureFields) → closed ≡ false → rest ≡ [] →
    IsOnWay closed pen first from rest whole old now → IsFilled whole (λ i j. Some pen.colour) old now
way-open closed pen first from rest whole old now is e way = (rw (e, is) at way.goes) now (filled-nothing (λ i j. Some pen.colour) now)

-- the line along a part of places of the world covers a pixel
abbrev pub place_covers : Bool → PenValue → List Place → ℕ → ℕ → Bool
place_covers closed pen part i j = part_covers closed pen.width (map (device_point pen.view) part) i j

-- a loop over all parts has painted the line along them
any-mapped : (closed : Bool) (pen : PenValue) (parts : List (List Place)) (i j : ℕ) →
    list_any (λ part. place_covers closed pen part i j) parts ≡ list_any (λ part. part_covers closed pen.width part i j) (map (map (device_point pen.view)) parts)
any-mapped closed pen [] i j = refl
any-mapped closed pen (part ∷ parts) i j = ap (λ t. place_covers closed pen part i j || t) (any-mapped closed pen parts i j)

pub parts-end : (closed : Bool) (pen : PenValue) (parts : List (List Place)) (k : ℕ) (a b : PictureFields) → length parts ≤ k →
    IsFilled (λ i j. list_any (λ part. place_covers closed pen part i j) (take k parts)) (λ i j. Some pen.colour) a b →
    IsFilled (λ i j. covers_pixel (line_of (map (map (device_point pen.view)) parts) closed pen.width) (pos i) (pos j)) (λ i j. Some pen.colour) a b
parts-end closed pen parts k a b end f =
    filled-same (λ i j. list_any (λ part. place_covers closed pen part i j) parts) (λ i j. covers_pixel (line_of (map (map (device_point pen.view)) parts) closed pen.width) (pos i) (pos j))
    (λ i j. Some pen.colour) a b (λ i j. any-mapped closed pen parts i j ∙ parts-line closed pen.width (map (map (device_point pen.view)) parts) i j)
    (rw (take_all k parts end) at f)

-- what a line fills is painted over with the line by the factor of the picture, where that is 1
pub stroked : (pen : PenValue) (parts : List (List Place)) (closed : Bool) (width : ℕ) (colour : Rgb) (view : ViewValue) (a b : PictureFields) →
    pen ≡ record { view = view; width = view.factor * width; colour = colour } → nat_lt 1 view.factor ≡ false →
    IsFilled (λ i j. covers_pixel (line_of (map (map (device_point pen.view)) parts) closed pen.width) (pos i) (pos j)) (λ i j. Some pen.colour) a b →
    IsPainted a b (line_by view.factor (map (map (device_point view)) parts) closed width colour ∷ [])
stroked pen parts closed width colour view a b e one f =
    rw one (painted-shape (Stroke (line_of (map (map (device_point view)) parts) closed (view.factor * width)) colour)
    (λ i j. covers_pixel (line_of (map (map (device_point view)) parts) closed (view.factor * width)) (pos i) (pos j)) (λ i j. Some colour)
    a b (λ i j. refl) (λ i j. refl) (rw e at f))

-- and what a round one fills, where that is more
pub rounded : (pen : PenValue) (parts : List (List Place)) (closed : Bool) (width : ℕ) (colour : Rgb) (view : ViewValue) (a b : PictureFields) →
    pen ≡ record { view = view; width = view.factor * width; colour = colour } → nat_lt 1 view.factor ≡ true →
    IsFilled (λ i j. round.covers_pixel (round_line (map (map (device_point pen.view)) parts) closed pen.width) (pos i) (pos j)) (λ i j. Some pen.colour) a b →
    IsPainted a b (line_by view.factor (map (map (device_point view)) parts) closed width colour ∷ [])
rounded pen parts closed width colour view a b e more f =
    rw more (painted-shape (RoundStroke (round_line (map (map (device_point view)) parts) closed (view.factor * width)) colour)
    (λ i j. round.covers_pixel (round_line (map (map (device_point view)) parts) closed (view.factor * width)) (pos i) (pos j)) (λ i j. Some colour)
    a b (λ i j. refl) (λ i j. refl) (rw e at f))

-- what passes a test with its colour, passes a weaker one with it, off the picture too
pub already-weaker : (s t : ℕ → ℕ → Bool) (colour : ℕ → ℕ → Option Rgb) (a : PictureFields) → ((i j : ℕ) → s i j ≡ true → t i j ≡ true) → IsFilled t colour a a → IsFilled s colour a a
already-weaker s t colour a less f = record {
  width = refl;
  height = refl;
  area = refl;
  filled = λ at h.
      pick (s (at % a.width) (at / a.width)) (t (at % a.width) (at / a.width)) (colour (at % a.width) (at / a.width)) (colour_of a.pixels at)
      (less (at % a.width) (at / a.width)) (f.filled at h);
}
  where
    pick : {X : Type 0} (s t : Bool) (x z : X) → (s ≡ true → t ≡ true) → z ≡ cond t x z → z ≡ cond s x z
    pick true t x z imp e = rw (imp refl) at e
    pick false t x z imp e = refl

-- pixels no distance apart are one
pub same-pixel : (p q : PixelValue) → are_neighbours 0 p q ≡ true → p ≡ q
same-pixel p q h = ⊎_elim
    (λ (one : are_abreast 0 p.i q.i p.j q.j ≡ true).
    let both = and_parts (are_close 0 p.i q.i) (are_close 0 p.j q.j) one in
    pixel p q (close p.i q.i both.0) (close p.j q.j both.1))
    (λ (two : are_abreast 0 p.j q.j p.i q.i ≡ true).
    let both = and_parts (are_close 0 p.j q.j) (are_close 0 p.i q.i) two in
    pixel p q (close p.i q.i both.1) (close p.j q.j both.0))
    (or-cases (are_abreast 0 p.i q.i p.j q.j) (are_abreast 0 p.j q.j p.i q.i) h)
  where
    close : (a b : ℤ) → are_close 0 a b ≡ true → a ≡ b
    close a b e =
        let both = and_parts (int_le (a -ℤ pos 0) b) (int_le b (a +ℤ pos 0)) e in
        omega (arith, ints, le_of (a -ℤ pos 0) b both.0, le_of b (a +ℤ pos 0) both.1)

    the-pixel : ℤ → ℤ → PixelValue
    the-pixel i j = record { i = i; j = j }

    pixel : (p q : PixelValue) → p.i ≡ q.i → p.j ≡ q.j → p ≡ q
    pixel p q e f =
        let first : Path PixelValue (record { i = p.i; j = p.j }) (record { i = q.i; j = p.j }) = ap (λ z. the-pixel z p.j) e in
        let second : Path PixelValue (record { i = q.i; j = p.j }) (record { i = q.i; j = q.j }) = ap (λ z. the-pixel q.i z) f in
        first ∙ second

-- a step within one pixel adds nothing to the square round it
pub filled-same-pixel : (pen : PenValue) (a b : DevicePoint) (canvas : PictureFields) →
    ((i j : ℕ) → segment_covers pen.width a b i j ≡ true → (vertex_covers pen.width a i j || vertex_covers pen.width b i j) ≡ true) → are_neighbours 0 (pixel_of a) (pixel_of b) ≡ true →
    HasAlready pen canvas (vertex_covers pen.width a) → HasAlready pen canvas (step_covers pen.width a b)
filled-same-pixel pen a b canvas short near f =
    let same = same-pixel (pixel_of a) (pixel_of b) near in
    already-weaker (step_covers pen.width a b) (vertex_covers pen.width a) (λ i j. Some pen.colour) canvas
    (λ i j h.
    let squares : vertex_covers pen.width b i j ≡ vertex_covers pen.width a i j = ap (λ (p : PixelValue). covers_square (record { pixel = p; size = pen.width }) (pos i) (pos j)) (sym same) in
    pick (segment_covers pen.width a b i j) (vertex_covers pen.width a i j) (vertex_covers pen.width b i j) squares (short i j) h) f
  where
    pick : (s a b : Bool) → b ≡ a → (s ≡ true → (a || b) ≡ true) → (s || b) ≡ true → a ≡ true
    pick s true b e imp h = refl
    pick true false true e imp h = sym e
    pick true false false e imp h = imp refl
    pick false false b e imp h = sym e ∙ h
