-- The chords of a disc, and round segments that are painted by them (docs/DRAWING.md, "When a pixel belongs to a round line").
use Rattle.std.specs.Prelude.{◌≡◌, ℕ, ◌+◌, ◌*◌, ◌≤◌, ◌<◌, ◌^◌, Bool, true, false, ◌&&◌, List, length, ℤ, pos, ◌+ℤ◌, ◌-ℤ◌, ◌*ℤ◌, ◌≤ℤ◌, slice_index_or}
use Rattle.geom.specs.Device.{pixel_centre}
use Rattle.geom.specs.Edge.{EdgeEnds}
use Rattle.geom.specs.Range.{IsBelow}
use Rattle.mapdefs.specs.declared.limits.TheConstants.{MAX_FINE_WIDTH}
use Rattle.strokes.specs.Round.{IsRoot, apart, is_abreast, is_close, limit, square, square_of_half}
use Rattle.strokes.specs.Segment.{SegmentValue}

-- no number lies between the discs round both ends of a segment of which the square of the length is l: of those that may say how far aside a
-- point beside it lies, four times the square, and the square of l, are no more than four times the most that the square may be
abbrev pub NothingBetween : ℕ → ℤ → Type 0
NothingBetween w l = (c : ℤ) → square c ≤ℤ (square_of_half w *ℤ l) → (pos 4 *ℤ square c +ℤ square l) ≤ℤ (pos 4 *ℤ (square_of_half w *ℤ l))

-- of which lengths, squared, that is known
abbrev pub ArePlain : ℕ → List Bool → Type 0
ArePlain w plain = (l : ℕ) → l < length plain → slice_index_or plain l false ≡ true → NothingBetween w (pos l)

-- half of each chord of a disc of width w: of those that lie so many sixteenths of a pixel from its centre
pub record AreChords (w : ℕ) (halves : List ℤ) : Type 0 where
  pub some : 1 ≤ w
  pub most : w ≤ MAX_FINE_WIDTH
  pub count : length halves ≡ 8 * w + 1
  pub all : (k : ℕ) → k < length halves → IsRoot (square_of_half w -ℤ square (pos k)) (slice_index_or halves k (pos 0))
  pub range : (k : ℕ) → k < length halves → IsBelow (2 ^ 61) (slice_index_or halves k (pos 0))

-- a pixel of a row lies beside an edge
abbrev pub is_beside : ℕ → EdgeEnds → ℕ → ℕ → Bool
is_beside w e row i = is_abreast e (pixel_centre (pos i) (pos row)) && is_close w e (pixel_centre (pos i) (pos row))

-- both ends of an edge lie within 2^20 pixels of the picture's corner
pub record IsSmallEdge (e : EdgeEnds) : Type 0 where
  pub from_across : IsBelow (2 ^ 24) e.from.x
  pub from_down : IsBelow (2 ^ 24) e.from.y
  pub to_across : IsBelow (2 ^ 24) e.to.x
  pub to_down : IsBelow (2 ^ 24) e.to.y

-- a step has a width within the limits, a small edge, and how far aside of that a point may lie, squared and times its length; it may be known
-- to be plain
pub record IsStep (s : SegmentValue) (limit_of_step : ℤ) (is_plain : Bool) : Type 0 where
  pub some : 1 ≤ s.width
  pub most : s.width ≤ MAX_FINE_WIDTH
  pub small : IsSmallEdge s.edge
  pub limit : limit_of_step ≡ limit s.width s.edge
  pub range : IsBelow (2 ^ 120) limit_of_step
  pub plain : is_plain ≡ true → NothingBetween s.width (apart s.edge.from s.edge.to)
