-- Painting a line block by block.
use Rattle.std.proofs.Common.{◌≡◌, ◌∙◌, ℕ, Bool, true, false, ◌&&◌, ◌||◌, List, [], ◌∷◌, ◌++◌, map, Option, Some, refl, sym, ap, arith}
use Rattle.std.proofs.lemmas.Bool.{and_parts}
use Rattle.std.proofs.lemmas.Int.{ints}
use Rattle.std.proofs.lemmas.List.{append-nil, map-append}
use Rattle.std.specs.List.{AllByRecursion}
use Rattle.std.specs.Prelude.{int_le}
use Rattle.geom.proofs.Products.{is_le, le_of}
use Rattle.geom.specs.Device.{DevicePoint}
use Rattle.geom.specs.World.{Area, HasPlace, Place}
use Rattle.mapdefs.specs.declared.colour.Rgb.{Rgb}
use Rattle.mapdefs.specs.declared.picture.PictureFields.{PictureFields}
use Rattle.viewport.specs.View.{device_point}
use Rattle.canvas.specs.Painted.{IsFilled}
use Rattle.vertices.specs.Chain.{HasChain, chain_end}
use Rattle.inking.specs.declared.trail.Trail.{Trail}
use Rattle.inking.specs.Stroked.{HasAlready, IsTrail, PenValue, chain_covers, has_box, has_place, pen_covers, rest_covers, step_covers}
use Rattle.vertices.proofs.Chains.{end-has}
use Rattle.canvas.proofs.Filling.{filled-either, filled-nothing, filled-same}
use Rattle.vertices.proofs.Placing.{end-placed}
use Rattle.inking.proofs.Stroking.{IsOnWay, filled-of, trail-by}

or-three : (a b c : Bool) → (a || (b || c)) ≡ ((a || b) || c)
or-three true b c = refl
or-three false b c = refl

-- the rest of a part covers what a chain does, or what remains after that
rest-append : (closed : Bool) (w : ℕ) (first other from : DevicePoint) (chain rest : List DevicePoint) (i j : ℕ) →
    (rest_covers false w other from chain i j || rest_covers closed w first (chain_end from chain) rest i j) ≡ rest_covers closed w first from (chain ++ rest) i j
rest-append closed w first other from [] rest i j = refl
rest-append closed w first other from (to ∷ chain) rest i j =
    sym (or-three (step_covers w from to i j) (rest_covers false w other to chain i j) (rest_covers closed w first (chain_end to chain) rest i j))
    ∙ ap (λ t. step_covers w from to i j || t) (rest-append closed w first other to chain rest i j)

-- a line is on its way after a block
pub way-block : (closed : Bool) (pen : PenValue) (first from end : Place) (left block behind : List Place) (whole : ℕ → ℕ → Bool) (old now next : PictureFields) →
    left ≡ block ++ behind → end ≡ chain_end from block → IsOnWay closed pen first from left whole old now → IsFilled (chain_covers pen from block) (λ i j. Some pen.colour) now next →
    IsOnWay closed pen first end behind whole old next
way-block closed pen first from end left block behind whole old now next e is way f =
    let at : Place → DevicePoint = device_point pen.view in
    let colour : ℕ → ℕ → Option Rgb = λ i j. Some pen.colour in
    let last : chain_end (at from) (map at block) ≡ at end = end-placed pen.view from block ∙ ap at (sym is) in
    record {
      sides = filled-of pen (chain_covers pen from block) colour now next f way.sides;
      goes = λ new g.
          (rw (e, map-append at block behind) at way.goes) new
          (filled-same (λ i j. chain_covers pen from block i j || rest_covers closed pen.width (at first) (at end) (map at behind) i j)
          (rest_covers closed pen.width (at first) (at from) (map at block ++ map at behind)) colour now new
          (λ i j. ap (λ (p : DevicePoint). chain_covers pen from block i j || rest_covers closed pen.width (at first) p (map at behind) i j) (sym last)
          ∙ rest-append closed pen.width (at first) (at from) (at from) (map at block) (map at behind) i j)
          (filled-either (chain_covers pen from block) (rest_covers closed pen.width (at first) (at end) (map at behind)) colour now next new f g));
    }

-- and after all vertices
pub way-whole : (closed : Bool) (pen : PenValue) (first end : Place) (rest : List Place) (whole : ℕ → ℕ → Bool) (old now next : PictureFields) → end ≡ chain_end first rest →
    IsOnWay closed pen first first rest whole old now → IsFilled (chain_covers pen first rest) (λ i j. Some pen.colour) now next → IsOnWay closed pen first end [] whole old next
way-whole closed pen first end rest whole old now next is way f = way-block closed pen first first end rest rest [] whole old now next (sym (append-nil rest)) is way f

-- a place in a box that lies in another box lies in that one
within : (big small : Area) (place : Place) → has_box big small ≡ true → HasPlace small place → has_place big place ≡ true
within big small place h inside =
    let both = and_parts (int_le big.minx small.minx && int_le small.maxx big.maxx) (int_le big.miny small.miny && int_le small.maxy big.maxy) h in
    let across = and_parts (int_le big.minx small.minx) (int_le small.maxx big.maxx) both.0 in
    let down = and_parts (int_le big.miny small.miny) (int_le small.maxy big.maxy) both.1 in
    rw (
      is_le big.minx place.x (omega (arith, ints, le_of big.minx small.minx across.0, inside.west)),
      is_le place.x big.maxx (omega (arith, ints, le_of small.maxx big.maxx across.1, inside.east)),
      is_le big.miny place.y (omega (arith, ints, le_of big.miny small.miny down.0, inside.south)),
      is_le place.y big.maxy (omega (arith, ints, le_of small.maxy big.maxy down.1, inside.north)),
    ) refl

all-within : (big small : Area) (places : List Place) → has_box big small ≡ true → AllByRecursion (HasPlace small) places → AllByRecursion (λ p. has_place big p ≡ true) places
all-within big small [] h all = all
all-within big small (place ∷ places) h all = (within big small place h all.0, all-within big small places h all.1)

-- steps within a quiet box need no painting
steps-quiet : (pen : PenValue) (canvas : PictureFields) (trail : Trail) (other : DevicePoint) (from : Place) (rest : List Place) → IsTrail pen canvas trail →
    AllByRecursion (λ p. has_place trail.quiet p ≡ true) (from ∷ rest) →
    HasAlready pen canvas (rest_covers false pen.width other (device_point pen.view from) (map (device_point pen.view) rest))
steps-quiet pen canvas trail other from [] is all = filled-nothing (λ i j. Some pen.colour) canvas
steps-quiet pen canvas trail other from (to ∷ rest) is all =
    filled-either (pen_covers pen from to) (rest_covers false pen.width other (device_point pen.view to) (map (device_point pen.view) rest)) (λ i j. Some pen.colour) canvas canvas canvas
    (is.quiet from to all.0 all.1.0) (steps-quiet pen canvas trail other to rest is all.1)

pub block-quiet : (pen : PenValue) (canvas : PictureFields) (trail : Trail) (area : Area) (block : List Place) → has_box trail.quiet area ≡ true → HasChain area trail.from block →
    IsTrail pen canvas trail → HasAlready pen canvas (chain_covers pen trail.from block) × IsTrail pen canvas (record { from = chain_end trail.from block; quiet = trail.quiet })
block-quiet pen canvas trail area block h all is =
    let inside = all-within trail.quiet area (trail.from ∷ block) h all in (
      steps-quiet pen canvas trail (device_point pen.view trail.from) trail.from block is inside,
      trail-by pen canvas trail (chain_end trail.from block) (end-has (λ p. has_place trail.quiet p ≡ true) trail.from block inside) is,
    )
