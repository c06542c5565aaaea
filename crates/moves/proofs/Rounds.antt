-- Round lines as they lie from a pixel.
use Rattle.std.proofs.Common.{◌≡◌, ◌∙◌, ℕ, Bool, ◌&&◌, ◌||◌, List, ◌++◌, map, take, refl, sym, ap}
use Rattle.std.proofs.lemmas.List.{map-append, take-map}
use Rattle.std.specs.Prelude.{int_le, int_lt}
use lib.IntN.{ℤ, pos, ◌+ℤ◌, ◌-ℤ◌, ◌*ℤ◌}
use Rattle.geom.specs.Device.{DevicePoint, PixelValue, pixel_centre}
use Rattle.geom.specs.Edge.{EdgeEnds}
use Rattle.strokes.specs.Disc.{DiscValue, covers_disc}
use Rattle.strokes.specs.Line.{edges_of, segment_along}
use Rattle.strokes.specs.Segment.{SegmentValue}
use Rattle.moves.specs.Laws.{DiscsMove, RoundLinesAreMoved, RoundLinesMove}
use Rattle.moves.specs.Moves.{disc_from, edge_from, point_from, segment_from}
use Rattle.strokes.specs.Round.{along, apart, aside, covers_round, has_centre, is_abreast, is_close, is_round, point_edge, round_edges, round_segments, square, square_of_half}
use Rattle.moves.proofs.Edges.{both, centre-from}
use Rattle.moves.proofs.Lines.{edges_of-from, either}
use Rattle.moves.proofs.Lists.{any-moved, flat_map-moved, map-moved}
use Rattle.moves.proofs.Numbers.{differ}

-- a sum and a difference of two products, by their factors
sum-by : (a b s r a' b' s' r' : ℤ) → a ≡ a' → b ≡ b' → s ≡ s' → r ≡ r' → a *ℤ s +ℤ b *ℤ r ≡ a' *ℤ s' +ℤ b' *ℤ r'
sum-by a b s r a' b' s' r' e f g h = rw (e, f, g, h) refl

less-by : (a b s r a' b' s' r' : ℤ) → a ≡ a' → b ≡ b' → s ≡ s' → r ≡ r' → a *ℤ s -ℤ b *ℤ r ≡ a' *ℤ s' -ℤ b' *ℤ r'
less-by a b s r a' b' s' r' e f g h = rw (e, f, g, h) refl

module _ (c : PixelValue) where
  -- two numbers are as far apart
  across : (a b : ℤ) → (a -ℤ pos 16 *ℤ c.i) -ℤ (b -ℤ pos 16 *ℤ c.i) ≡ a -ℤ b
  across a b = differ a b (pos 16 *ℤ c.i)

  down : (a b : ℤ) → (a -ℤ pos 16 *ℤ c.j) -ℤ (b -ℤ pos 16 *ℤ c.j) ≡ a -ℤ b
  down a b = differ a b (pos 16 *ℤ c.j)

  apart-from : (a p : DevicePoint) → apart (point_from c a) (point_from c p) ≡ apart a p
  apart-from a p =
      sum-by ((point_from c p).x -ℤ (point_from c a).x) ((point_from c p).y -ℤ (point_from c a).y) ((point_from c p).x -ℤ (point_from c a).x) ((point_from c p).y -ℤ (point_from c a).y)
      (p.x -ℤ a.x) (p.y -ℤ a.y) (p.x -ℤ a.x) (p.y -ℤ a.y) (across p.x a.x) (down p.y a.y) (across p.x a.x) (down p.y a.y)

  module _ (e : EdgeEnds) (p : DevicePoint) where
    along-from : along (edge_from c e) (point_from c p) ≡ along e p
    along-from =
        sum-by ((point_from c p).x -ℤ (point_from c e.from).x) ((point_from c p).y -ℤ (point_from c e.from).y) ((point_from c e.to).x -ℤ (point_from c e.from).x) ((point_from c e.to).y -ℤ (point_from c e.from).y)
        (p.x -ℤ e.from.x) (p.y -ℤ e.from.y) (e.to.x -ℤ e.from.x) (e.to.y -ℤ e.from.y)
        (across p.x e.from.x) (down p.y e.from.y) (across e.to.x e.from.x) (down e.to.y e.from.y)

    aside-from : aside (edge_from c e) (point_from c p) ≡ aside e p
    aside-from =
        less-by ((point_from c p).y -ℤ (point_from c e.from).y) ((point_from c p).x -ℤ (point_from c e.from).x) ((point_from c e.to).x -ℤ (point_from c e.from).x) ((point_from c e.to).y -ℤ (point_from c e.from).y)
        (p.y -ℤ e.from.y) (p.x -ℤ e.from.x) (e.to.x -ℤ e.from.x) (e.to.y -ℤ e.from.y)
        (down p.y e.from.y) (across p.x e.from.x) (across e.to.x e.from.x) (down e.to.y e.from.y)

    abreast-from : is_abreast (edge_from c e) (point_from c p) ≡ is_abreast e p
    abreast-from =
        both (int_lt (pos 0) (along (edge_from c e) (point_from c p))) (int_lt (along (edge_from c e) (point_from c p)) (apart (point_from c e.from) (point_from c e.to)))
        (int_lt (pos 0) (along e p)) (int_lt (along e p) (apart e.from e.to))
        (ap (int_lt (pos 0)) along-from)
        (ap (λ z. int_lt z (apart (point_from c e.from) (point_from c e.to))) along-from ∙ ap (int_lt (along e p)) (apart-from e.from e.to))

    close-from : (w : ℕ) → is_close w (edge_from c e) (point_from c p) ≡ is_close w e p
    close-from w =
        ap (λ z. int_le (square z) (square_of_half w *ℤ apart (point_from c e.from) (point_from c e.to))) aside-from
        ∙ ap (λ z. int_le (square (aside e p)) (square_of_half w *ℤ z)) (apart-from e.from e.to)

  round-from : (w : ℕ) (a p : DevicePoint) → is_round w (point_from c a) (point_from c p) ≡ is_round w a p
  round-from w a p = ap (λ z. int_le z (square_of_half w)) (apart-from a p)

  pub round-moved : (w : ℕ) (e : EdgeEnds) (p : DevicePoint) → covers_round w (edge_from c e) (point_from c p) ≡ covers_round w e p
  unfolding covers_round
  round-moved w e p =
      either (is_round w (point_from c e.from) (point_from c p) || is_round w (point_from c e.to) (point_from c p)) (is_abreast (edge_from c e) (point_from c p) && is_close w (edge_from c e) (point_from c p))
      (is_round w e.from p || is_round w e.to p) (is_abreast e p && is_close w e p)
      (either (is_round w (point_from c e.from) (point_from c p)) (is_round w (point_from c e.to) (point_from c p)) (is_round w e.from p) (is_round w e.to p) (round-from w e.from p) (round-from w e.to p))
      (both (is_abreast (edge_from c e) (point_from c p)) (is_close w (edge_from c e) (point_from c p)) (is_abreast e p) (is_close w e p) (abreast-from e p) (close-from e p w))

  centre-covered : (i j : ℤ) (s : SegmentValue) → has_centre i j (segment_from c s) ≡ has_centre (c.i +ℤ i) (c.j +ℤ j) s
  centre-covered i j s =
      ap (covers_round s.width (edge_from c s.edge)) (centre-from c i j) ∙ round-moved s.width s.edge (pixel_centre (c.i +ℤ i) (c.j +ℤ j))

  round_edges-from : (closed : Bool) (part : List DevicePoint) → round_edges closed (map (point_from c) part) ≡ map (edge_from c) (round_edges closed part)
  round_edges-from closed part =
      ap (λ ps. map point_edge ps ++ edges_of closed (map (point_from c) part)) (take-map (point_from c) 1 part)
      ∙ (ap (λ es. es ++ edges_of closed (map (point_from c) part)) (map-moved point_edge (point_from c) (edge_from c) point_edge (λ p. refl) (take 1 part))
      ∙ (ap (λ es. map (edge_from c) (map point_edge (take 1 part)) ++ es) (edges_of-from c closed part) ∙ sym (map-append (edge_from c) (map point_edge (take 1 part)) (edges_of closed part))))

  segments-from : (closed : Bool) (width : ℕ) (part : List DevicePoint) →
      round_segments closed width (map (point_from c) part) ≡ map (segment_from c) (round_segments closed width part)
  segments-from closed width part =
      ap (map (segment_along width)) (round_edges-from closed part)
      ∙ map-moved (segment_along width) (edge_from c) (segment_from c) (segment_along width) (λ e. refl) (round_edges closed part)

pub round_lines-move : RoundLinesMove
round_lines-move c segments i j = any-moved (has_centre i j) (segment_from c) (has_centre (c.i +ℤ i) (c.j +ℤ j)) (centre-covered c i j) segments

pub round_lines-are-moved : RoundLinesAreMoved
round_lines-are-moved c parts closed width =
    flat_map-moved (round_segments closed width) (map (point_from c)) (segment_from c) (round_segments closed width) (segments-from c closed width) parts

-- discs
disc-moved : (c : PixelValue) (d : DiscValue) (p : DevicePoint) → covers_disc (disc_from c d) (point_from c p) ≡ covers_disc d p
unfolding covers_disc
disc-moved c d p = ap (λ z. int_le z (square_of_half d.size) && int_le (square_of_half d.hole) z) (apart-from c d.at p)

pub discs-move : DiscsMove
discs-move c d i j = ap (covers_disc (disc_from c d)) (centre-from c i j) ∙ disc-moved c d (pixel_centre (c.i +ℤ i) (c.j +ℤ j))
