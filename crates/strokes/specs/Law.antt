-- What follows from the rules of segments (docs/DRAWING.md, "When a pixel belongs to a line").
use Rattle.std.specs.Prelude.{◌≡◌, ℕ, ◌<◌, ◌≤◌, ◌⊎◌, ◌↔◌, ◌*◌, Bool, true, false, ◌&&◌, ℤ, pos, neg_ℤ, ◌+ℤ◌, ◌-ℤ◌, ◌*ℤ◌, ◌<ℤ◌, ◌≤ℤ◌, int_le, int_lt}
use Rattle.std.specs.Int.RustNames.{unsigned_abs}
use Rattle.geom.specs.Device.{DevicePoint, centre, pixel_centre}
use Rattle.geom.specs.Laws.{IsOnLine}
use Rattle.strokes.specs.Segment.{covers_segment, turned}

-- the numbers that pass are w, one after another
abbrev pub AreInSequence : ℕ → (ℤ → Bool) → Type 0
AreInSequence w test = (first : ℤ) × ((k : ℤ) → test k ≡ (int_le first k && int_lt k (first +ℤ pos w)))

-- how far two points lie apart, across and down
abbrev pub across : DevicePoint → DevicePoint → ℕ
across a b = unsigned_abs (b.x -ℤ a.x)

abbrev pub down : DevicePoint → DevicePoint → ℕ
down a b = unsigned_abs (b.y -ℤ a.y)

-- c lies between a and b, both included, whichever is the less
abbrev pub LiesBetween : ℤ → ℤ → ℤ → Type 0
LiesBetween a c b = ((a ≤ℤ c) × (c ≤ℤ b)) ⊎ ((b ≤ℤ c) × (c ≤ℤ a))

-- a segment that goes further down than across covers w pixels side by side in each row whose centres lie between its ends
abbrev pub AreRowsWide : Type 0
AreRowsWide =
    (w : ℕ) (a b : DevicePoint) (j : ℤ) → across a b < down a b → LiesBetween a.y (centre j) b.y →
    AreInSequence w (λ i. covers_segment w (record { from = a; to = b }) (pixel_centre i j))

-- any other one that has a length covers w pixels one below another in each column whose centres lie between its ends
abbrev pub AreColumnsWide : Type 0
AreColumnsWide =
    (w : ℕ) (a b : DevicePoint) (i : ℤ) → down a b ≤ across a b → 0 < across a b → LiesBetween a.x (centre i) b.x →
    AreInSequence w (λ j. covers_segment w (record { from = a; to = b }) (pixel_centre i j))

-- a segment covers the same in both directions
abbrev pub IsSameBack : Type 0
IsSameBack = (w : ℕ) (a b p : DevicePoint) → covers_segment w (record { from = b; to = a }) p ≡ covers_segment w (record { from = a; to = b }) p

-- a segment of length 0 covers nothing
abbrev pub IsNothing : Type 0
IsNothing = (w : ℕ) (a p : DevicePoint) → covers_segment w (record { from = a; to = a }) p ≡ false

-- how far right of n d-ths a number x lies is more than -8 w and at most 8 w: the half width to the left, which doesn't count, and to the right
abbrev pub IsWithinHalf : ℕ → ℤ → ℤ → ℤ → Type 0
IsWithinHalf w n d x = (neg_ℤ (pos (16 * w) *ℤ d) <ℤ (pos 2 *ℤ (d *ℤ x -ℤ n))) × ((pos 2 *ℤ (d *ℤ x -ℤ n)) ≤ℤ (pos (16 * w) *ℤ d))

-- a segment that goes further down than across covers a point exactly where its height lies between the segment's ends, and the point lies within
-- half the width of the segment's line, which has the x of n d-ths at that height
abbrev pub SteepSegmentsFollowTheirLine : Type 0
SteepSegmentsFollowTheirLine =
    (w : ℕ) (a b p : DevicePoint) (n d : ℤ) → across a b < down a b → pos 0 <ℤ d → IsOnLine (record { from = a; to = b }) p.y n d →
    (covers_segment w (record { from = a; to = b }) p ≡ true) ↔ (LiesBetween a.y p.y b.y × IsWithinHalf w n d p.x)

-- any other one that has a length does so with across and down exchanged: its line has the y of n d-ths at the point's x
abbrev pub FlatSegmentsFollowTheirLine : Type 0
FlatSegmentsFollowTheirLine =
    (w : ℕ) (a b p : DevicePoint) (n d : ℤ) → down a b ≤ across a b → 0 < across a b → pos 0 <ℤ d → IsOnLine (record { from = turned a; to = turned b }) p.x n d →
    (covers_segment w (record { from = a; to = b }) p ≡ true) ↔ (LiesBetween a.x p.x b.x × IsWithinHalf w n d p.y)
