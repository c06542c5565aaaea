-- What follows from the rules of round segments (docs/DRAWING.md, "When a pixel belongs to a round line").
use Rattle.std.specs.Prelude.{◌≡◌, ℕ, ◌*◌, ◌↔◌, Bool, true, List, reverse, ℤ, pos, ◌+ℤ◌, ◌-ℤ◌, ◌*ℤ◌, ◌<ℤ◌, ◌≤ℤ◌}
use Rattle.std.specs.List.{list_any}
use Rattle.geom.specs.Device.{DevicePoint}
use Rattle.geom.specs.Edge.{EdgeEnds}
use Rattle.strokes.specs.Round.{covers_round, has_centre, is_round, point_edge, round_segments, square}

-- the point k m-ths of the way along an edge lies on it, and is at most half a width w away from p: both sides are m times as large, squared
pub record IsNear (w : ℕ) (e : EdgeEnds) (p : DevicePoint) (k m : ℤ) : Type 0 where
  pub some : pos 0 <ℤ m
  pub least : pos 0 ≤ℤ k
  pub most : k ≤ℤ m
  pub near : (square (m *ℤ (p.x -ℤ e.from.x) -ℤ k *ℤ (e.to.x -ℤ e.from.x)) +ℤ square (m *ℤ (p.y -ℤ e.from.y) -ℤ k *ℤ (e.to.y -ℤ e.from.y)))
      ≤ℤ square (m *ℤ pos (8 * w))

-- a round segment covers exactly the points that are at most half its width away from some point of it
abbrev pub RoundSegmentsAreNear : Type 0
RoundSegmentsAreNear = (w : ℕ) (e : EdgeEnds) (p : DevicePoint) → (covers_round w e p ≡ true) ↔ ((k : ℤ) × (m : ℤ) × IsNear w e p k m)

-- it covers the same points in both directions
abbrev pub RoundSegmentsAreSameBack : Type 0
RoundSegmentsAreSameBack = (w : ℕ) (a b p : DevicePoint) → covers_round w (record { from = b; to = a }) p ≡ covers_round w (record { from = a; to = b }) p

-- one of length 0 is a disc
abbrev pub RoundPointsAreDiscs : Type 0
RoundPointsAreDiscs = (w : ℕ) (a p : DevicePoint) → covers_round w (point_edge a) p ≡ is_round w a p

-- what lies in a row between two points that a round segment covers is covered
abbrev pub RoundRowsAreRuns : Type 0
RoundRowsAreRuns =
    (w : ℕ) (e : EdgeEnds) (x1 x x2 y : ℤ) → x1 ≤ℤ x → x ≤ℤ x2 → covers_round w e (record { x = x1; y = y }) ≡ true →
    covers_round w e (record { x = x2; y = y }) ≡ true → covers_round w e (record { x = x; y = y }) ≡ true

-- a part covers the same from its last vertex to its first, also where the line is closed
abbrev pub RoundLinesAreSameBack : Type 0
RoundLinesAreSameBack = (closed : Bool) (w : ℕ) (part : List DevicePoint) (i j : ℤ) →
    list_any (has_centre i j) (round_segments closed w (reverse part)) ≡ list_any (has_centre i j) (round_segments closed w part)
