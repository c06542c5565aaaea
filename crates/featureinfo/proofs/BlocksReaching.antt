-- A block whose box lies beyond a side has all its vertices beyond it.
use Rattle.std.proofs.Common.{◌≡◌, ◌∙◌, ℕ, ◌*◌, ◌<◌, zero, suc, Bool, true, false, ◌||◌, List, [], ◌∷◌, ◌++◌, drop, get_or, length, take, refl, sym, ap, arith}
use Rattle.std.proofs.lemmas.Int.{ints}
use Rattle.std.proofs.lemmas.List.{take-append-drop}
use Rattle.std.proofs.lemmas.List.Folds.{list_any-append}
use Rattle.std.specs.List.{AllByRecursion, list_any}
use lib.IntN.{ℤ}
use lib.Signed.{◌≤ℤ◌}
use Rattle.geom.proofs.Products.{is_not_le, not_le_of}
use Rattle.geom.specs.World.{Area, HasPlace, IsExtent, Place}
use Rattle.mapdefs.proofs.BlockBoxes.{block-has}
use Rattle.mapdefs.specs.Blocks.{AreBlockBoxes}
use Rattle.viewport.specs.View.{ViewValue, device_point}
use Rattle.vertices.proofs.Placing.{across-rising, down-falling}
use Rattle.featureinfo.specs.Reach.{box_reaches, is_within, part_reaches}
use Rattle.featureinfo.specs.declared.side.Side.{Side}
use Rattle.featureinfo.specs.declared.side.Side.TheVariants.{Right, Left, Bottom, Top}

-- further east is further right, and further south is further down
eastward : (view : ViewValue) (a b : Place) → IsExtent view.area → a.x ≤ℤ b.x → (device_point view a).x ≤ℤ (device_point view b).x
eastward view a b extent le = across-rising view a.x b.x extent.columns le

southward : (view : ViewValue) (a b : Place) → IsExtent view.area → b.y ≤ℤ a.y → (device_point view a).y ≤ℤ (device_point view b).y
southward view a b extent le = down-falling view b.y a.y extent.rows le

-- where a box lies beyond a side, each place in it does
pub beyond : (view : ViewValue) (box : Area) (limit : ℤ) (side : Side) (place : Place) → IsExtent view.area → HasPlace box place → box_reaches view box limit side ≡ false →
    is_within side limit (device_point view place) ≡ false
beyond view box limit Right place extent inside h =
    let corner : Place = record { x = box.minx; y = box.miny } in
    is_not_le (device_point view place).x limit (omega (arith, ints, not_le_of (device_point view corner).x limit h, eastward view corner place extent inside.west))
beyond view box limit Left place extent inside h =
    let corner : Place = record { x = box.maxx; y = box.miny } in
    is_not_le limit (device_point view place).x (omega (arith, ints, not_le_of limit (device_point view corner).x h, eastward view place corner extent inside.east))
beyond view box limit Bottom place extent inside h =
    let corner : Place = record { x = box.minx; y = box.maxy } in
    is_not_le (device_point view place).y limit (omega (arith, ints, not_le_of (device_point view corner).y limit h, southward view corner place extent inside.north))
beyond view box limit Top place extent inside h =
    let corner : Place = record { x = box.minx; y = box.miny } in
    is_not_le limit (device_point view place).y (omega (arith, ints, not_le_of limit (device_point view corner).y h, southward view place corner extent inside.south))

pub all-beyond : (view : ViewValue) (box : Area) (limit : ℤ) (side : Side) (places : List Place) → IsExtent view.area → AllByRecursion (HasPlace box) places → box_reaches view box limit side ≡ false →
    part_reaches view places limit side ≡ false
all-beyond view box limit side [] extent all h = refl
all-beyond view box limit side (place ∷ places) extent all h = rw (beyond view box limit side place extent all.0 h) (all-beyond view box limit side places extent all.1 h)

-- what holds for all of the first n + 1 places holds for all of the first n
all-fewer : (P : Place → Type 0) (n : ℕ) (places : List Place) → AllByRecursion P (take (suc n) places) → AllByRecursion P (take n places)
all-fewer P zero places all = tt
all-fewer P (suc n) [] all = tt
all-fewer P (suc n) (place ∷ places) all = (all.0, all-fewer P n places all.1)

-- the box of a block contains its vertices but the last
pub block-places : (vertices : List Place) (boxes : List Area) (k : ℕ) (box : Area) (left : List Place) → AreBlockBoxes vertices boxes → k < length boxes → box ≡ get_or boxes k box →
    left ≡ drop (32 * k) vertices → AllByRecursion (HasPlace box) (take 32 left)
block-places vertices boxes k box [] are below is e = tt
block-places vertices boxes k box (from ∷ rest) are below is e = all-fewer (HasPlace box) 32 (from ∷ rest) (block-has vertices boxes k box from rest are below is e)

-- a vertex that reaches is in the block or after it
or-false : (a b : Bool) → a ≡ false → (a || b) ≡ b
or-false true b e = absurd (cc)
or-false false b e = refl

pub passed-over : (view : ViewValue) (limit : ℤ) (side : Side) (left block behind : List Place) → block ≡ take 32 left → behind ≡ drop 32 left → part_reaches view block limit side ≡ false →
    part_reaches view behind limit side ≡ part_reaches view left limit side
passed-over view limit side left block behind e f none =
    let test : Place → Bool = λ place. is_within side limit (device_point view place) in
    let parted : block ++ behind ≡ left = ap (λ xs. xs ++ behind) e ∙ (ap (λ xs. take 32 left ++ xs) f ∙ take-append-drop 32 left) in
    sym (or-false (list_any test block) (list_any test behind) none) ∙ (sym (list_any-append test block behind) ∙ ap (λ xs. list_any test xs) parted)

pub reached : (view : ViewValue) (limit : ℤ) (side : Side) (left block : List Place) → block ≡ take 32 left → part_reaches view block limit side ≡ true → part_reaches view left limit side ≡ true
reached view limit side left block e some =
    let test : Place → Bool = λ place. is_within side limit (device_point view place) in
    ap (λ xs. list_any test xs) (sym (take-append-drop 32 left)) ∙ (list_any-append test (take 32 left) (drop 32 left)
    ∙ ap (λ b. b || list_any test (drop 32 left)) (ap (λ xs. list_any test xs) (sym e) ∙ some))
