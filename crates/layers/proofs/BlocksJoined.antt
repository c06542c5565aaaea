-- The box of a part is that of the boxes of its blocks.
use Rattle.std.proofs.Common.{◌≡◌, ◌∙◌, ℕ, zero, suc, List, [], ◌∷◌, ◌+◌, ◌<◌, ◌≤◌, add-one, drop, fold, get_or, length, take, refl, sym, ap, arith}
use Rattle.std.proofs.Math.Seq.{drop-cons}
use Rattle.std.proofs.lemmas.Int.{clamps, ints}
use Rattle.std.specs.Int.{int_max, int_min}
use lib.IntN.{ℤ}
use lib.Signed.{◌≤ℤ◌}
use Rattle.geom.specs.World.{Area, Place}
use Rattle.mapdefs.proofs.BlockBoxes.{IsWider, greater-both, less-both}
use Rattle.mapdefs.specs.Blocks.{box_of_places, nowhere, with_place}
use Rattle.layers.specs.Boxes.{with_box}

-- the lesser of two numbers is the first or the second
less-left : (a b : ℤ) → a ≤ℤ b → int_min a b ≡ a
less-left a b h = omega (arith, ints, clamps, h)

less-assoc : (a b c : ℤ) → int_min a (int_min b c) ≡ int_min (int_min a b) c
less-assoc a b c = omega (arith, ints, clamps)

less-twice : (a b : ℤ) → int_min (int_min a b) b ≡ int_min a b
less-twice a b = omega (arith, ints, clamps)

-- and so is the greater
greater-left : (a b : ℤ) → b ≤ℤ a → int_max a b ≡ a
greater-left a b h = omega (arith, ints, clamps, h)

greater-assoc : (a b c : ℤ) → int_max a (int_max b c) ≡ int_max (int_max a b) c
greater-assoc a b c = omega (arith, ints, clamps)

greater-twice : (a b : ℤ) → int_max (int_max a b) b ≡ int_max a b
greater-twice a b = omega (arith, ints, clamps)

-- a box is that of its four sides
sides : (a b : Area) → a.minx ≡ b.minx → a.miny ≡ b.miny → a.maxx ≡ b.maxx → a.maxy ≡ b.maxy → a ≡ b
sides a b e f g h =
    let of : ℤ → ℤ → ℤ → ℤ → Area = λ minx miny maxx maxy. record { minx = minx; miny = miny; maxx = maxx; maxy = maxy } in
    ap (λ z. of z a.miny a.maxx a.maxy) e ∙ (ap (λ z. of b.minx z a.maxx a.maxy) f ∙ (ap (λ z. of b.minx b.miny z a.maxy) g ∙ ap (λ z. of b.minx b.miny b.maxx z) h))

-- a place that a box contains already changes nothing
place-twice : (a : Area) (p : Place) → with_place (with_place a p) p ≡ with_place a p
place-twice a p = sides (with_place (with_place a p) p) (with_place a p) (less-twice a.minx p.x) (less-twice a.miny p.y) (greater-twice a.maxx p.x) (greater-twice a.maxy p.y)

-- the places of a list may be taken in two overlapping parts
overlap : (n : ℕ) (a : Area) (places : List Place) → fold with_place (fold with_place a (take (suc n) places)) (drop n places) ≡ fold with_place a places
overlap zero a [] = refl
overlap (suc n) a [] = refl
overlap zero a (p ∷ places) = ap (λ b. fold with_place b places) (place-twice a p)
overlap (suc n) a (p ∷ places) = overlap n (with_place a p) places

-- a box with that of some places is the box with those places
with-fold : (a n : Area) (places : List Place) → with_box a (fold with_place n places) ≡ fold with_place (with_box a n) places
with-fold a n [] = refl
with-fold a n (p ∷ places) =
    with-fold a (with_place n p) places
    ∙ ap (λ b. fold with_place b places)
    (sides (with_box a (with_place n p)) (with_place (with_box a n) p) (less-assoc a.minx n.minx p.x) (less-assoc a.miny n.miny p.y) (greater-assoc a.maxx n.maxx p.x) (greater-assoc a.maxy n.maxy p.y))

pub with-places : (a : Area) (places : List Place) → IsWider a nowhere → with_box a (box_of_places places) ≡ fold with_place a places
with-places a places wide =
    with-fold a nowhere places
    ∙ ap (λ b. fold with_place b places)
    (sides (with_box a nowhere) a (less-left a.minx nowhere.minx wide.west) (less-left a.miny nowhere.miny wide.south) (greater-left a.maxx nowhere.maxx wide.east) (greater-left a.maxy nowhere.maxy wide.north))

-- after the box of the block with which some places begin, the places from its last on are left
pub block-joined : (a next box : Area) (places : List Place) → IsWider a nowhere → next ≡ with_box a box → box ≡ box_of_places (take 33 places) →
    fold with_place next (drop 32 places) ≡ fold with_place a places
block-joined a next box places wide e is =
    ap (λ b. fold with_place b (drop 32 places)) (e ∙ (ap (λ b. with_box a b) is ∙ with-places a (take 33 places) wide)) ∙ overlap 32 a places

-- a box with another one is wider than it
pub box-wider : (a b small : Area) → IsWider a small → IsWider (with_box a b) small
box-wider a b small wide = record {
  west = omega (arith, ints, (less-both a.minx b.minx).0, wide.west);
  south = omega (arith, ints, (less-both a.miny b.miny).0, wide.south);
  east = omega (arith, ints, (greater-both a.maxx b.maxx).0, wide.east);
  north = omega (arith, ints, (greater-both a.maxy b.maxy).0, wide.north);
}

cons-first : {X : Type 0} (p v : X) (ps vs : List X) → p ∷ ps ≡ v ∷ vs → p ≡ v
cons-first p v ps vs e = ap (λ xs. get_or xs 0 p) e

-- the first place after a block is the block's last, which the box contains already
pub again-next : (n : ℕ) (a : Area) (places : List Place) (v : Place) (more : List Place) → drop n places ≡ v ∷ more →
    with_place (fold with_place a (take (suc n) places)) v ≡ fold with_place a (take (suc n) places)
again-next zero a [] v more e = absurd (omega (arith, ap length e))
again-next (suc n) a [] v more e = absurd (omega (arith, ap length e))
again-next zero a (p ∷ places) v more e = rw (← cons-first p v places more e) (place-twice a p)
again-next (suc n) a (p ∷ places) v more e = again-next n (with_place a p) places v more e

-- so where at most one place remains, the box is whole
pub joined-end : (a whole : Area) (left : List Place) → length left ≤ 1 → ((v : Place) (more : List Place) → left ≡ v ∷ more → with_place a v ≡ a) →
    fold with_place a left ≡ whole → a ≡ whole
joined-end a whole [] few again e = e
joined-end a whole (v ∷ []) few again e = sym (again v [] refl) ∙ e
joined-end a whole (v ∷ w ∷ more) few again e = absurd (omega (arith, few))

pub rest-next : {X : Type 0} (rest : List X) (i : ℕ) (to : X) → i < length rest → to ≡ get_or rest i to → drop i rest ≡ to ∷ drop (i + 1) rest
rest-next rest i to below e = rw (add-one) (drop-cons rest i to below ∙ ap (λ x. x ∷ drop (suc i) rest) (sym e))
