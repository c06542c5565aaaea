-- Painting a round line from vertex to vertex.
use Rattle.std.proofs.Common.{◌≡◌, ◌∙◌, ℕ, ◌≤◌, Bool, true, false, ◌||◌, List, [], ◌∷◌, map, length, take, take_all, Option, Some, refl, sym, ap}
use Rattle.std.proofs.lemmas.List.Folds.{list_any-append}
use Rattle.std.specs.List.{list_any}
use lib.IntN.{pos}
use Rattle.geom.specs.Device.{DevicePoint}
use Rattle.geom.specs.World.{Place}
use Rattle.mapdefs.specs.declared.colour.Rgb.{Rgb}
use Rattle.mapdefs.specs.declared.picture.PictureFields.{PictureFields}
use Rattle.strokes.specs.Line.{segment_along}
use Rattle.strokes.specs.Round.{covers_pixel, has_centre, round_line, round_segments}
use Rattle.strokes.proofs.Parts.{following, round_edges-following}
use Rattle.viewport.specs.View.{device_point}
use Rattle.canvas.specs.Painted.{IsFilled}
use Rattle.canvas.proofs.Filling.{filled-either, filled-nothing, filled-same}
use Rattle.inking.specs.Rounded.{round_part_covers, round_step_covers}
use Rattle.inking.specs.Stroked.{PenValue, PixelTest}

-- the colour of a pen
abbrev pub ink : PenValue → ℕ → ℕ → Option Rgb
ink pen i j = Some pen.colour

-- what is left of a part from a vertex on covers a pixel
abbrev pub left_covers : Bool → ℕ → DevicePoint → DevicePoint → List DevicePoint → PixelTest
left_covers closed w first from rest i j = list_any (has_centre (pos i) (pos j)) (map (segment_along w) (following closed first from rest))

-- what is left of a line fills all of it
pub record IsOnRoundWay (closed : Bool) (pen : PenValue) (first from : DevicePoint) (rest : List DevicePoint) (whole : PixelTest) (old now : PictureFields) : Type 0 where
  pub goes : (new : PictureFields) → IsFilled (left_covers closed pen.width first from rest) (ink pen) now new → IsFilled whole (ink pen) old new

-- the way begins with the first vertex
pub round-begin : (closed : Bool) (pen : PenValue) (part : List DevicePoint) (first : DevicePoint) (rest : List DevicePoint) (old now : PictureFields) → part ≡ first ∷ rest →
    IsFilled (round_step_covers pen.width first first) (ink pen) old now → IsOnRoundWay closed pen first first rest (round_part_covers closed pen.width part) old now
round-begin closed pen part first rest old now e f = record {
  goes = λ new g. filled-same
      (λ i j. round_step_covers pen.width first first i j || left_covers closed pen.width first first rest i j) (round_part_covers closed pen.width part) (ink pen) old new
      (λ i j. ap (λ edges. list_any (has_centre (pos i) (pos j)) (map (segment_along pen.width) edges)) (sym (round_edges-following closed part first rest e)))
      (filled-either (round_step_covers pen.width first first) (left_covers closed pen.width first first rest) (ink pen) old now new f g);
}

-- and goes on with each step
pub round-next : (closed : Bool) (pen : PenValue) (first from to : DevicePoint) (left rest : List DevicePoint) (whole : PixelTest) (old now next : PictureFields) → left ≡ to ∷ rest →
    IsOnRoundWay closed pen first from left whole old now → IsFilled (round_step_covers pen.width from to) (ink pen) now next →
    IsOnRoundWay closed pen first to rest whole old next
round-next closed pen first from to left rest whole old now next e way f = record {
  goes = λ new g. way.goes new (filled-same
      (λ i j. round_step_covers pen.width from to i j || left_covers closed pen.width first to rest i j) (left_covers closed pen.width first from left) (ink pen) now new
      (λ i j. ap (λ more. left_covers closed pen.width first from more i j) (sym e))
      (filled-either (round_step_covers pen.width from to) (left_covers closed pen.width first to rest) (ink pen) now next new f g));
}

or-last : (t : Bool) → t ≡ (t || false)
or-last true = refl
or-last false = refl

-- to its end
pub round-closed : (closed : Bool) (pen : PenValue) (first from : DevicePoint) (rest : List DevicePoint) (whole : PixelTest) (old now next : PictureFields) → closed ≡ true → rest ≡ [] →
    IsOnRoundWay closed pen first from rest whole old now → IsFilled (round_step_covers pen.width from first) (ink pen) now next → IsFilled whole (ink pen) old next
round-closed closed pen first from rest whole old now next is e way f = way.goes next (filled-same
    (round_step_covers pen.width from first) (left_covers closed pen.width first from rest) (ink pen) now next (λ i j. rw (is, e) (or-last (round_step_covers pen.width from first i j))) f)

pub round-open : (closed : Bool) (pen : PenValue) (first from : DevicePoint) (rest : List DevicePoint) (whole : PixelTest) (old now : PictureFields) → closed ≡ false → rest ≡ [] →
    IsOnRoundWay closed pen first from rest whole old now → IsFilled whole (ink pen) old now
round-open closed pen first from rest whole old now is e way = way.goes now (filled-same
    (λ i j. false) (left_covers closed pen.width first from rest) (ink pen) now now (λ i j. rw (is, e) refl) (filled-nothing (ink pen) now))

-- the line along places covers a pixel: the line along one of the parts does
abbrev pub round_place_covers : Bool → PenValue → List Place → PixelTest
round_place_covers closed pen part = round_part_covers closed pen.width (map (device_point pen.view) part)

-- a loop over all parts has painted the line along them
round-any : (closed : Bool) (pen : PenValue) (parts : List (List Place)) (i j : ℕ) →
    list_any (λ part. round_place_covers closed pen part i j) parts ≡ covers_pixel (round_line (map (map (device_point pen.view)) parts) closed pen.width) (pos i) (pos j)
round-any closed pen [] i j = refl
round-any closed pen (part ∷ parts) i j =
    ap (λ t. round_place_covers closed pen part i j || t) (round-any closed pen parts i j)
    ∙ sym (list_any-append (has_centre (pos i) (pos j)) (round_segments closed pen.width (map (device_point pen.view) part)) (round_line (map (map (device_point pen.view)) parts) closed pen.width))

pub round-end : (closed : Bool) (pen : PenValue) (parts : List (List Place)) (k : ℕ) (a b : PictureFields) → length parts ≤ k →
    IsFilled (λ i j. list_any (λ part. round_place_covers closed pen part i j) (take k parts)) (ink pen) a b →
    IsFilled (λ i j. covers_pixel (round_line (map (map (device_point pen.view)) parts) closed pen.width) (pos i) (pos j)) (ink pen) a b
round-end closed pen parts k a b end f =
    filled-same (λ i j. list_any (λ part. round_place_covers closed pen part i j) parts) (λ i j. covers_pixel (round_line (map (map (device_point pen.view)) parts) closed pen.width) (pos i) (pos j))
    (ink pen) a b (λ i j. round-any closed pen parts i j) (rw (take_all k parts end) at f)
