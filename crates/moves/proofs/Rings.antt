-- Rings as they lie from a pixel.
use Rattle.std.proofs.Common.{◌≡◌, ◌∙◌, ℕ, ◌+◌, Bool, cond, List, [], ◌∷◌, ◌++◌, map, take, drop, refl, sym, ap, arith}
use Rattle.std.proofs.lemmas.List.{map-append, take-map, drop-map}
use Rattle.std.specs.List.{count_by, zip}
use lib.IntN.{◌+ℤ◌}
use Rattle.geom.specs.Device.{DevicePoint, PixelValue, pixel_centre}
use Rattle.geom.specs.Edge.{EdgeEnds, crosses_at_or_left}
use Rattle.geom.specs.EvenOdd.{edge_between, edges, is_covered, is_inside, is_odd, ring_edges}
use Rattle.geom.proofs.Turning.{crossings-cons}
use Rattle.moves.specs.Laws.{RingsMove}
use Rattle.moves.specs.Moves.{edge_from, point_from, points_from}
use Rattle.moves.proofs.Edges.{centre-from, crosses-moved}

-- pairs of moved points are moved edges
pub pairs-from : (c : PixelValue) (ps qs : List DevicePoint) →
    map edge_between (zip (map (point_from c) ps) (map (point_from c) qs)) ≡ map (edge_from c) (map edge_between (zip ps qs))
pairs-from c [] qs = refl
pairs-from c (a ∷ ps) [] = refl
pairs-from c (a ∷ ps) (b ∷ qs) = ap (λ es. edge_from c (edge_between (a, b)) ∷ es) (pairs-from c ps qs)

pub ring-from : (c : PixelValue) (ring : List DevicePoint) → ring_edges (map (point_from c) ring) ≡ map (edge_from c) (ring_edges ring)
ring-from c ring =
    ap (λ next. map edge_between (zip (map (point_from c) ring) next)) next-from ∙ pairs-from c ring (drop 1 ring ++ take 1 ring)
  where
    next-from : drop 1 (map (point_from c) ring) ++ take 1 (map (point_from c) ring) ≡ map (point_from c) (drop 1 ring ++ take 1 ring)
    next-from = rw (drop-map (point_from c) 1 ring, take-map (point_from c) 1 ring) (sym (map-append (point_from c) (drop 1 ring) (take 1 ring)))

pub edges-from : (c : PixelValue) (rings : List (List DevicePoint)) → edges (points_from c rings) ≡ map (edge_from c) (edges rings)
edges-from c [] = refl
edges-from c (ring ∷ rings) =
    ap (λ es. es ++ edges (points_from c rings)) (ring-from c ring)
    ∙ (ap (λ es. map (edge_from c) (ring_edges ring) ++ es) (edges-from c rings) ∙ sym (map-append (edge_from c) (ring_edges ring) (edges rings)))

-- what an edge adds to the crossings
abbrev share : DevicePoint → EdgeEnds → ℕ
share p e = cond {A = ℕ} (crosses_at_or_left p e) 1 0

-- as many of them cross
pub count-from : (c : PixelValue) (p : DevicePoint) (es : List EdgeEnds) →
    count_by (crosses_at_or_left (point_from c p)) (map (edge_from c) es) ≡ count_by (crosses_at_or_left p) es
count-from c p [] = refl
count-from c p (e ∷ es) =
    crossings-cons (point_from c p) (edge_from c e) (map (edge_from c) es)
    ∙ (add (share (point_from c p) (edge_from c e)) (share p e) (count_by (crosses_at_or_left (point_from c p)) (map (edge_from c) es)) (count_by (crosses_at_or_left p) es)
    (ap (λ (b : Bool). cond {A = ℕ} b 1 0) (crosses-moved c e p)) (count-from c p es)
    ∙ sym (crossings-cons p e es))
  where
    add : (a b m n : ℕ) → a ≡ b → m ≡ n → a + m ≡ b + n
    add a b m n e f = omega (arith, e, f)

pub inside-moved : (c : PixelValue) (rings : List (List DevicePoint)) (p : DevicePoint) → is_inside (points_from c rings) (point_from c p) ≡ is_inside rings p
inside-moved c rings p =
    ap (λ es. is_covered es (point_from c p)) (edges-from c rings) ∙ ap is_odd (count-from c p (edges rings))

pub rings-move : RingsMove
rings-move c rings i j =
    ap (λ p. is_inside (points_from c rings) p) (centre-from c i j) ∙ inside-moved c rings (pixel_centre (c.i +ℤ i) (c.j +ℤ j))
