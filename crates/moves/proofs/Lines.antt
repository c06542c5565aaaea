-- Lines and squares as they lie from a pixel.
use Rattle.std.proofs.Common.{◌≡◌, ◌∙◌, ℕ, ◌-◌, ◌/◌, Bool, true, false, ◌||◌, List, map, drop, refl, ap, arith}
use Rattle.std.proofs.lemmas.Int.{ints}
use Rattle.std.proofs.lemmas.List.{drop-map}
use Rattle.std.specs.List.{flat_map, list_any, zip}
use Rattle.std.specs.Prelude.{int_le}
use lib.IntN.{ℤ, pos, ◌+ℤ◌, ◌-ℤ◌}
use Rattle.geom.specs.Device.{DevicePoint, PixelValue, pixel_centre}
use Rattle.geom.specs.EvenOdd.{edge_between}
use Rattle.strokes.specs.Line.{covers_centre, edges_of, segment_along, segments_of, square_at}
use Rattle.strokes.specs.Segment.{SegmentValue, covers_segment}
use Rattle.strokes.specs.Square.{covers_square, is_beside}
use Rattle.moves.specs.Laws.{LinesAreMoved, LinesMove, SquaresMove}
use Rattle.moves.specs.Moves.{edge_from, point_from, points_from, segment_from, square_from}
use Rattle.moves.proofs.Edges.{both, centre-from, pixel-of}
use Rattle.moves.proofs.Lists.{any-moved, flat_map-moved, map-moved}
use Rattle.moves.proofs.Numbers.{le-by}
use Rattle.moves.proofs.Rings.{pairs-from, ring-from}
use Rattle.moves.proofs.Segments.{segment-moved}

beside-from : (size : ℕ) (at k z : ℤ) → is_beside size (at -ℤ k) z ≡ is_beside size at (k +ℤ z)
beside-from size at k z =
    both (int_le ((at -ℤ k) -ℤ pos ((size - 1) / 2)) z) (int_le z ((at -ℤ k) +ℤ pos (size / 2)))
    (int_le (at -ℤ pos ((size - 1) / 2)) (k +ℤ z)) (int_le (k +ℤ z) (at +ℤ pos (size / 2)))
    (before (pos ((size - 1) / 2))) (after (pos (size / 2)))
  where
    before : (n : ℤ) → int_le ((at -ℤ k) -ℤ n) z ≡ int_le (at -ℤ n) (k +ℤ z)
    before n = le-by ((at -ℤ k) -ℤ n) z (at -ℤ n) (k +ℤ z) (omega (arith, ints))

    after : (n : ℤ) → int_le z ((at -ℤ k) +ℤ n) ≡ int_le (k +ℤ z) (at +ℤ n)
    after n = le-by z ((at -ℤ k) +ℤ n) (k +ℤ z) (at +ℤ n) (omega (arith, ints))

pub squares-move : SquaresMove
unfolding covers_square
squares-move c s i j =
    both (is_beside s.size (s.pixel.i -ℤ c.i) i) (is_beside s.size (s.pixel.j -ℤ c.j) j) (is_beside s.size s.pixel.i (c.i +ℤ i)) (is_beside s.size s.pixel.j (c.j +ℤ j))
    (beside-from s.size s.pixel.i c.i i) (beside-from s.size s.pixel.j c.j j)

centre-covered : (c : PixelValue) (i j : ℤ) (s : SegmentValue) → covers_centre i j (segment_from c s) ≡ covers_centre (c.i +ℤ i) (c.j +ℤ j) s
centre-covered c i j s =
    ap (covers_segment s.width (edge_from c s.edge)) (centre-from c i j) ∙ segment-moved s.width c s.edge (pixel_centre (c.i +ℤ i) (c.j +ℤ j))

pub either : (a b a' b' : Bool) → a ≡ a' → b ≡ b' → (a || b) ≡ (a' || b')
either a b a' b' e f = rw (e, f) refl

pub lines-move : LinesMove
lines-move c l i j =
    either (list_any (covers_centre i j) (map (segment_from c) l.segments)) (list_any (λ s. covers_square s i j) (map (square_from c) l.squares))
    (list_any (covers_centre (c.i +ℤ i) (c.j +ℤ j)) l.segments) (list_any (λ s. covers_square s (c.i +ℤ i) (c.j +ℤ j)) l.squares)
    (any-moved (covers_centre i j) (segment_from c) (covers_centre (c.i +ℤ i) (c.j +ℤ j)) (centre-covered c i j) l.segments)
    (any-moved (λ s. covers_square s i j) (square_from c) (λ s. covers_square s (c.i +ℤ i) (c.j +ℤ j)) (λ s. squares-move c s i j) l.squares)

pub edges_of-from : (c : PixelValue) (closed : Bool) (part : List DevicePoint) → edges_of closed (map (point_from c) part) ≡ map (edge_from c) (edges_of closed part)
edges_of-from c true part = ring-from c part
edges_of-from c false part = ap (λ next. map edge_between (zip (map (point_from c) part) next)) (drop-map (point_from c) 1 part) ∙ pairs-from c part (drop 1 part)

segments-from : (c : PixelValue) (closed : Bool) (width : ℕ) (part : List DevicePoint) →
    segments_of closed width (map (point_from c) part) ≡ map (segment_from c) (segments_of closed width part)
segments-from c closed width part =
    ap (map (segment_along width)) (edges_of-from c closed part)
    ∙ map-moved (segment_along width) (edge_from c) (segment_from c) (segment_along width) (λ e. refl) (edges_of closed part)

square-from : (c : PixelValue) (width : ℕ) (p : DevicePoint) → square_at width (point_from c p) ≡ square_from c (square_at width p)
square-from c width p = ap (λ at. record { pixel = at; size = width }) (pixel-of c p)

pub lines-are-moved : LinesAreMoved
lines-are-moved c parts closed width =
    ap (λ ss. record { segments = ss; squares = flat_map (map (square_at width)) (points_from c parts) })
    (flat_map-moved (segments_of closed width) (map (point_from c)) (segment_from c) (segments_of closed width) (segments-from c closed width) parts)
    ∙ ap (λ ss. record { segments = map (segment_from c) (flat_map (segments_of closed width) parts); squares = ss })
    (flat_map-moved (map (square_at width)) (map (point_from c)) (square_from c) (map (square_at width))
    (λ part. map-moved (square_at width) (point_from c) (square_from c) (square_at width) (square-from c width) part) parts)
