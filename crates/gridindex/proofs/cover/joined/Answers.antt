use Rattle.std.proofs.Common.{◌≡◌, ◌∙◌, arith}
use Rattle.std.proofs.lemmas.Int.{clamps, ints}
use Rattle.std.specs.Int.{int_max, int_min}
use Rattle.std.specs.Ordering.{int_cmp, ord_max, ord_min}
use lib.IntN.{ℤ}
use lib.Signed.{◌≤ℤ◌}
use Rattle.gridindex.proofs.Lesser.{greater, lesser}
use Rattle.gridindex.proofs.cover.joined.Goals as goal

-- the lesser of two numbers is at most each of them, and the greater at least
least : (m a b : ℤ) → m ≡ ord_min int_cmp a b → (m ≤ℤ a) × (m ≤ℤ b)
least m a b e = let is : m ≡ int_min a b = e ∙ lesser a b in (omega (arith, ints, clamps, is), omega (arith, ints, clamps, is))

most : (m a b : ℤ) → m ≡ ord_max int_cmp a b → (a ≤ℤ m) × (b ≤ℤ m)
most m a b e = let is : m ≡ int_max a b = e ∙ greater a b in (omega (arith, ints, clamps, is), omega (arith, ints, clamps, is))

pub returns-clause-one : goal.returns-clause-one
returns-clause-one c = λ place h. rw c.new.ensures (record {
  west = omega (arith, ints, h.west, (least c.min.result c.minx.result c.minx-2.result c.min.ensures).0, c.minx.ensures);
  east = omega (arith, ints, h.east, (most c.max.result c.maxx.result c.maxx-2.result c.max.ensures).0, c.maxx.ensures);
  south = omega (arith, ints, h.south, (least c.min-2.result c.miny.result c.miny-2.result c.min-2.ensures).0, c.miny.ensures);
  north = omega (arith, ints, h.north, (most c.max-2.result c.maxy.result c.maxy-2.result c.max-2.ensures).0, c.maxy.ensures);
})

pub returns-clause-other : goal.returns-clause-other
returns-clause-other c = λ place h. rw c.new.ensures (record {
  west = omega (arith, ints, h.west, (least c.min.result c.minx.result c.minx-2.result c.min.ensures).1, c.minx-2.ensures);
  east = omega (arith, ints, h.east, (most c.max.result c.maxx.result c.maxx-2.result c.max.ensures).1, c.maxx-2.ensures);
  south = omega (arith, ints, h.south, (least c.min-2.result c.miny.result c.miny-2.result c.min-2.ensures).1, c.miny-2.ensures);
  north = omega (arith, ints, h.north, (most c.max-2.result c.maxy.result c.maxy-2.result c.max-2.ensures).1, c.maxy-2.ensures);
})
