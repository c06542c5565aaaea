-- The box of a block has all of the block's vertices.
use Rattle.std.proofs.Common.{◌≡◌, ◌∙◌, ℕ, ◌*◌, ◌<◌, List, [], ◌∷◌, drop, fold, get_or, length, subst, sym, ap, arith, take}
use Rattle.std.proofs.lemmas.Int.{clamps, ints}
use Rattle.std.specs.List.{AllByRecursion}
use Rattle.std.specs.Int.{int_max, int_min}
use lib.IntN.{ℤ}
use lib.Signed.{◌≤ℤ◌}
use Rattle.geom.specs.World.{Area, HasPlace, Place}
use Rattle.mapdefs.specs.Blocks.{AreBlockBoxes, block_of, box_of_places, nowhere, with_place}

-- the sides of one box lie no further in than those of another
pub record IsWider (big small : Area) : Type 0 where
  pub west : big.minx ≤ℤ small.minx
  pub south : big.miny ≤ℤ small.miny
  pub east : small.maxx ≤ℤ big.maxx
  pub north : small.maxy ≤ℤ big.maxy

pub less-both : (a b : ℤ) → (int_min a b ≤ℤ a) × (int_min a b ≤ℤ b)
less-both a b = (omega (arith, ints, clamps), omega (arith, ints, clamps))

pub greater-both : (a b : ℤ) → (a ≤ℤ int_max a b) × (b ≤ℤ int_max a b)
greater-both a b = (omega (arith, ints, clamps), omega (arith, ints, clamps))

-- a box that is joined with one more place is wider, and contains the place
pub one-wider : (area : Area) (p : Place) → IsWider (with_place area p) area
one-wider area p = record {
  west = (less-both area.minx p.x).0;
  south = (less-both area.miny p.y).0;
  east = (greater-both area.maxx p.x).0;
  north = (greater-both area.maxy p.y).0;
}

pub one-has : (area : Area) (p : Place) → HasPlace (with_place area p) p
one-has area p = record {
  west = (less-both area.minx p.x).1;
  east = (greater-both area.maxx p.x).1;
  south = (less-both area.miny p.y).1;
  north = (greater-both area.maxy p.y).1;
}

pub wider-same : (a : Area) → IsWider a a
wider-same a = record { west = omega (arith, ints); south = omega (arith, ints); east = omega (arith, ints); north = omega (arith, ints) }

pub wider-on : (a b c : Area) → IsWider a b → IsWider b c → IsWider a c
wider-on a b c f g = record {
  west = omega (arith, ints, f.west, g.west);
  south = omega (arith, ints, f.south, g.south);
  east = omega (arith, ints, f.east, g.east);
  north = omega (arith, ints, f.north, g.north);
}

pub wider-has : (a b : Area) (p : Place) → IsWider a b → HasPlace b p → HasPlace a p
wider-has a b p f h = record {
  west = omega (arith, ints, f.west, h.west);
  east = omega (arith, ints, f.east, h.east);
  south = omega (arith, ints, f.south, h.south);
  north = omega (arith, ints, f.north, h.north);
}

-- so do many
pub many-wider : (area : Area) (places : List Place) → IsWider (fold with_place area places) area
many-wider area [] = wider-same area
many-wider area (p ∷ places) = wider-on (fold with_place (with_place area p) places) (with_place area p) area (many-wider (with_place area p) places) (one-wider area p)

many-have : (area : Area) (places : List Place) → AllByRecursion (HasPlace (fold with_place area places)) places
many-have area [] = tt
many-have area (p ∷ places) = (
  wider-has (fold with_place (with_place area p) places) (with_place area p) p (many-wider (with_place area p) places) (one-has area p),
  many-have (with_place area p) places,
)

-- where the block of an index begins with a vertex, its box has that one and all that follow in the block
pub block-has : (vertices : List Place) (boxes : List Area) (k : ℕ) (area : Area) (from : Place) (rest : List Place) → AreBlockBoxes vertices boxes → k < length boxes →
    area ≡ get_or boxes k area → from ∷ rest ≡ drop (32 * k) vertices → AllByRecursion (HasPlace area) (from ∷ take 32 rest)
block-has vertices boxes k area from rest are below is e =
    let block : from ∷ take 32 rest ≡ block_of vertices k = ap (take 33) e in
    let box : area ≡ box_of_places (from ∷ take 32 rest) = is ∙ are.each k area below ∙ ap box_of_places (sym block) in
    subst (λ a. AllByRecursion (HasPlace a) (from ∷ take 32 rest)) (sym box) (many-have nowhere (from ∷ take 32 rest))
