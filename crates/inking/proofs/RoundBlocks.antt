-- Painting a round line block by block.
use Rattle.std.proofs.Common.{◌≡◌, ◌∙◌, ℕ, ◌*◌, Bool, true, false, ◌||◌, List, [], ◌∷◌, ◌++◌, map, length, refl, sym, ap, arith, subst, ⊎_elim}
use Rattle.std.proofs.lemmas.Int.{ints}
use Rattle.std.proofs.lemmas.List.{map-append}
use Rattle.std.specs.List.{AllByRecursion, Contains, list_any}
use Rattle.std.specs.Prelude.{int_lt}
use lib.IntN.{pos}
use Rattle.geom.proofs.Products.{lt_of}
use Rattle.geom.specs.Device.{DevicePoint, pixel_centre}
use Rattle.geom.specs.Edge.{EdgeEnds}
use Rattle.geom.specs.World.{Area, HasPlace, Place}
use Rattle.mapdefs.proofs.Containing.{first_or}
use Rattle.mapdefs.specs.Near.{LiesInBoxOf}
use Rattle.mapdefs.specs.declared.picture.PictureFields.{PictureFields}
use Rattle.strokes.proofs.Parts.{edges_of-following}
use Rattle.strokes.proofs.RoundBack.{second-disc}
use Rattle.strokes.proofs.Short.{or-cases}
use Rattle.strokes.specs.Line.{segment_along}
use Rattle.strokes.specs.Round.{has_centre}
use Rattle.viewport.specs.View.{IsView, device_point, window}
use Rattle.vertices.proofs.NearBoxes.{box-in}
use Rattle.vertices.proofs.NearRounds.{chain-round}
use Rattle.vertices.proofs.Placing.{end-placed}
use Rattle.vertices.specs.Chain.{HasChain, chain_end}
use Rattle.canvas.proofs.Filling.{filled-either, filled-nothing, filled-same}
use Rattle.canvas.specs.Painted.{IsFilled}
use Rattle.inking.proofs.RoundStroking.{IsOnRoundWay, ink, left_covers}
use Rattle.inking.proofs.Stroking.{already-less, already-weaker, filled-already}
use Rattle.inking.specs.Rounded.{are_apart, round_chain_covers, round_step_covers}
use Rattle.inking.specs.Stroked.{HasAlready, IsOf, PenValue, PixelTest}

or-three : (a b c : Bool) → (a || (b || c)) ≡ ((a || b) || c)
or-three true b c = refl
or-three false b c = refl

-- the segments of a chain are those from its first vertex on
chain-left : (pen : PenValue) (from : Place) (rest : List Place) (i j : ℕ) →
    round_chain_covers pen from rest i j ≡ left_covers false pen.width (device_point pen.view from) (device_point pen.view from) (map (device_point pen.view) rest) i j
chain-left pen from rest i j =
    let at : Place → DevicePoint = device_point pen.view in
    ap (λ (edges : List EdgeEnds). list_any (has_centre (pos i) (pos j)) (map (segment_along pen.width) edges))
    (edges_of-following false (at from ∷ map at rest) (at from) (map at rest) refl)

-- what is left of a part covers what a chain does, or what is left after that
left-append : (closed : Bool) (w : ℕ) (first other from : DevicePoint) (chain rest : List DevicePoint) (i j : ℕ) →
    (left_covers false w other from chain i j || left_covers closed w first (chain_end from chain) rest i j) ≡ left_covers closed w first from (chain ++ rest) i j
left-append closed w first other from [] rest i j = refl
left-append closed w first other from (to ∷ chain) rest i j =
    sym (or-three (round_step_covers w from to i j) (left_covers false w other to chain i j) (left_covers closed w first (chain_end to chain) rest i j))
    ∙ ap (λ t. round_step_covers w from to i j || t) (left-append closed w first other to chain rest i j)

-- a line is on its way after a block
pub round-block : (closed : Bool) (pen : PenValue) (first : DevicePoint) (from end : Place) (left block behind : List Place) (whole : PixelTest) (old now next : PictureFields) →
    left ≡ block ++ behind → end ≡ chain_end from block → IsOnRoundWay closed pen first (device_point pen.view from) (map (device_point pen.view) left) whole old now →
    IsFilled (round_chain_covers pen from block) (ink pen) now next → IsOnRoundWay closed pen first (device_point pen.view end) (map (device_point pen.view) behind) whole old next
round-block closed pen first from end left block behind whole old now next e is way f =
    let at : Place → DevicePoint = device_point pen.view in
    let w = pen.width in
    let last : chain_end (at from) (map at block) ≡ at end = end-placed pen.view from block ∙ ap at (sym is) in
    record {
      goes = λ new g.
          (rw (e, map-append at block behind) at way.goes) new
          (filled-same (λ i j. round_chain_covers pen from block i j || left_covers closed w first (at end) (map at behind) i j)
          (left_covers closed w first (at from) (map at block ++ map at behind)) (ink pen) now new
          (λ i j. ap (λ t. t || left_covers closed w first (at end) (map at behind) i j) (chain-left pen from block i j)
          ∙ (ap (λ (p : DevicePoint). left_covers false w (at from) (at from) (map at block) i j || left_covers closed w first p (map at behind) i j) (sym last)
          ∙ left-append closed w first (at from) (at from) (map at block) (map at behind) i j))
          (filled-either (round_chain_covers pen from block) (left_covers closed w first (at end) (map at behind)) (ink pen) now next new f g));
    }

-- a chain begins with its first vertex
pub chain-begin : (pen : PenValue) (from : Place) (start : DevicePoint) (rest : List Place) (now : PictureFields) → start ≡ device_point pen.view from →
    IsOnRoundWay false pen (device_point pen.view from) start (map (device_point pen.view) rest) (round_chain_covers pen from rest) now now
chain-begin pen from start rest now e =
    let at : Place → DevicePoint = device_point pen.view in
    rw e (record {
      goes = λ new g. filled-same (left_covers false pen.width (at from) (at from) (map at rest)) (round_chain_covers pen from rest) (ink pen) now new (λ i j. sym (chain-left pen from rest i j)) g;
    })

-- what holds of each element holds of one of them
all-has : {X : Type 0} (P : X → Type 0) (xs : List X) (x : X) → AllByRecursion P xs → Contains xs x → P x
all-has P [] x all c = absurd (omega (arith, c.1))
all-has P (y ∷ ys) x all c = ⊎_elim
    (λ (e : y ≡ x). subst P e all.0)
    (λ (d : Contains ys x). all-has P ys x all.1 d)
    (first_or y x ys c)

-- no place lies in the box of places in a box, and in another one apart from that
none-between : (w area : Area) (places : List Place) (place : Place) → AllByRecursion (HasPlace area) places → are_apart w area ≡ true → HasPlace w place → LiesInBoxOf places place → ⊥
none-between w area places place all apart is among =
    let west = int_lt area.maxx w.minx in
    let east = int_lt w.maxx area.minx in
    let south = int_lt area.maxy w.miny in
    let north = int_lt w.maxy area.miny in
    ⊎_elim
    (λ (h : ((west || east) || south) ≡ true). ⊎_elim
    (λ (g : (west || east) ≡ true). ⊎_elim
    (λ (f : west ≡ true). let (k, p, below, at, less) = among.east in omega (arith, ints, lt_of area.maxx w.minx f, (all-has (HasPlace area) places p all (k, below, at)).east, less, is.west))
    (λ (f : east ≡ true). let (k, p, below, at, less) = among.west in omega (arith, ints, lt_of w.maxx area.minx f, (all-has (HasPlace area) places p all (k, below, at)).west, less, is.east))
    (or-cases west east g))
    (λ (f : south ≡ true). let (k, p, below, at, less) = among.north in omega (arith, ints, lt_of area.maxy w.miny f, (all-has (HasPlace area) places p all (k, below, at)).north, less, is.south))
    (or-cases (west || east) south h))
    (λ (f : north ≡ true). let (k, p, below, at, less) = among.south in omega (arith, ints, lt_of w.maxy area.miny f, (all-has (HasPlace area) places p all (k, below, at)).south, less, is.north))
    (or-cases ((west || east) || south) north apart)

-- a chain in a box apart from the pen's window covers no pixel of the picture
pub block-apart : (pen : PenValue) (canvas : PictureFields) (from : Place) (rest : List Place) (area : Area) → IsView pen.view → IsOf pen canvas → length canvas.pixels ≡ canvas.width * canvas.height →
    HasChain area from rest → are_apart (window pen.view pen.width) area ≡ true → IsFilled (round_chain_covers pen from rest) (ink pen) canvas canvas
block-apart pen canvas from rest area limits is pixels has apart =
    already-less (round_chain_covers pen from rest) (λ i j. false) (ink pen) canvas pixels
    (λ i j column row covered.
    let (place, inside, among) = box-in pen.view pen.width (from ∷ rest) limits
    (chain-round pen.view pen.width pen.width (from ∷ rest) i j (omega arith) (omega (arith, is.columns)) (omega (arith, is.rows)) covered) in
    absurd (none-between (window pen.view pen.width) area (from ∷ rest) place has apart inside among))
    (filled-nothing (ink pen) canvas)

-- after a step the disc round its second end is painted
pub disc-after : (pen : PenValue) (from to : DevicePoint) (old new : PictureFields) → IsFilled (round_step_covers pen.width from to) (ink pen) old new →
    HasAlready pen new (round_step_covers pen.width to to)
disc-after pen from to old new f =
    already-weaker (round_step_covers pen.width to to) (round_step_covers pen.width from to) (ink pen) new
    (λ i j h. second-disc pen.width (pixel_centre (pos i) (pos j)) from to h)
    (filled-already (round_step_covers pen.width from to) (ink pen) old new f)

-- one without length adds nothing to it
pub same-disc : (pen : PenValue) (canvas : PictureFields) (a b : DevicePoint) → a ≡ b → HasAlready pen canvas (round_step_covers pen.width a a) →
    HasAlready pen canvas (round_step_covers pen.width a b)
same-disc pen canvas a b e f = subst (λ (p : DevicePoint). HasAlready pen canvas (round_step_covers pen.width a p)) e f
