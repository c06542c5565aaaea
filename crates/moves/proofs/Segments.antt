-- Segments as they lie from a pixel.
use Rattle.std.proofs.Common.{◌≡◌, ◌∙◌, ℕ, ◌*◌, Bool, ◌&&◌, if◌then◌else◌, refl, ap}
use Rattle.std.specs.Int.RustNames.{unsigned_abs}
use Rattle.std.specs.Prelude.{int_le, int_lt, nat_lt}
use lib.IntN.{ℤ, pos, neg_ℤ, ◌-ℤ◌, ◌*ℤ◌}
use Rattle.geom.specs.Device.{DevicePoint, PixelValue}
use Rattle.geom.specs.Edge.{EdgeEnds, high_end, low_end, rise, run}
use Rattle.strokes.specs.Segment.{covers_by_rows, covers_segment, is_between, is_near, is_steep, right_of, turned, turned_edge}
use Rattle.moves.specs.Moves.{edge_from, point_from}
use Rattle.moves.proofs.Numbers.{le-from}
use Rattle.moves.proofs.Edges.{below-low, both, high-from, low-from, right-low, rise-from, run-from}

steep-from : (c : PixelValue) (e : EdgeEnds) → is_steep (edge_from c e) ≡ is_steep e
steep-from c e =
    ap (λ z. nat_lt (unsigned_abs z) (unsigned_abs (rise (edge_from c e)))) (run-from c e)
    ∙ ap (λ z. nat_lt (unsigned_abs (run e)) (unsigned_abs z)) (rise-from c e)

between-from : (c : PixelValue) (e : EdgeEnds) (p : DevicePoint) → is_between (edge_from c e) (point_from c p).y ≡ is_between e p.y
between-from c e p =
    both (int_le (low_end (edge_from c e)).y (point_from c p).y) (int_le (point_from c p).y (high_end (edge_from c e)).y)
    (int_le (low_end e).y p.y) (int_le p.y (high_end e).y)
    (ap (λ (q : DevicePoint). int_le q.y (point_from c p).y) (low-from c e) ∙ le-from (low_end e).y p.y (pos 16 *ℤ c.j))
    (ap (λ (q : DevicePoint). int_le (point_from c p).y q.y) (high-from c e) ∙ le-from p.y (high_end e).y (pos 16 *ℤ c.j))

-- a difference of two products, by its factors
crossed-by : (a b s r a' b' s' r' : ℤ) → a ≡ a' → b ≡ b' → s ≡ s' → r ≡ r' → a *ℤ s -ℤ b *ℤ r ≡ a' *ℤ s' -ℤ b' *ℤ r'
crossed-by a b s r a' b' s' r' e f g h = rw (e, f, g, h) refl

right-from : (c : PixelValue) (e : EdgeEnds) (p : DevicePoint) → right_of (edge_from c e) (point_from c p) ≡ right_of e p
right-from c e p =
    crossed-by ((point_from c p).x -ℤ (low_end (edge_from c e)).x) ((point_from c p).y -ℤ (low_end (edge_from c e)).y) (rise (edge_from c e)) (run (edge_from c e))
    (p.x -ℤ (low_end e).x) (p.y -ℤ (low_end e).y) (rise e) (run e)
    (right-low c e p) (below-low c e p) (rise-from c e) (run-from c e)

near-by : (w : ℕ) (r s r' s' : ℤ) → r ≡ r' → s ≡ s' →
    (int_lt (neg_ℤ (pos (16 * w) *ℤ s)) (pos 2 *ℤ r) && int_le (pos 2 *ℤ r) (pos (16 * w) *ℤ s))
    ≡ (int_lt (neg_ℤ (pos (16 * w) *ℤ s')) (pos 2 *ℤ r') && int_le (pos 2 *ℤ r') (pos (16 * w) *ℤ s'))
near-by w r s r' s' e f = rw (e, f) refl

near-from : (w : ℕ) (c : PixelValue) (e : EdgeEnds) (p : DevicePoint) → is_near w (edge_from c e) (point_from c p) ≡ is_near w e p
near-from w c e p = near-by w (right_of (edge_from c e) (point_from c p)) (rise (edge_from c e)) (right_of e p) (rise e) (right-from c e p) (rise-from c e)

rows-from : (w : ℕ) (c : PixelValue) (e : EdgeEnds) (p : DevicePoint) → covers_by_rows w (edge_from c e) (point_from c p) ≡ covers_by_rows w e p
rows-from w c e p =
    both (is_between (edge_from c e) (point_from c p).y) (is_near w (edge_from c e) (point_from c p)) (is_between e p.y) (is_near w e p)
    (between-from c e p) (near-from w c e p)

-- a pixel with its column and row exchanged
abbrev exchanged : PixelValue → PixelValue
exchanged c = record { i = c.j; j = c.i }

turned-from : (c : PixelValue) (e : EdgeEnds) → turned_edge (edge_from c e) ≡ edge_from (exchanged c) (turned_edge e)
turned-from c e =
    ap (λ (p : DevicePoint). record { from = turned p; to = turned (high_end (edge_from c e)) }) (low-from c e)
    ∙ ap (λ (p : DevicePoint). record { from = turned (point_from c (low_end e)); to = turned p }) (high-from c e)

chosen : (b b' x x' y y' : Bool) → b ≡ b' → x ≡ x' → y ≡ y' → (if b then x else y) ≡ (if b' then x' else y')
chosen b b' x x' y y' e f g = rw (e, f, g) refl

pub segment-moved : (w : ℕ) (c : PixelValue) (e : EdgeEnds) (p : DevicePoint) → covers_segment w (edge_from c e) (point_from c p) ≡ covers_segment w e p
unfolding covers_segment
segment-moved w c e p =
    chosen (is_steep (edge_from c e)) (is_steep e) (covers_by_rows w (edge_from c e) (point_from c p)) (covers_by_rows w e p)
    (covers_by_rows w (turned_edge (edge_from c e)) (turned (point_from c p))) (covers_by_rows w (turned_edge e) (turned p))
    (steep-from c e) (rows-from w c e p)
    (ap (λ q. covers_by_rows w q (turned (point_from c p))) (turned-from c e) ∙ rows-from w (exchanged c) (turned_edge e) (turned p))
