use Rattle.std.proofs.Common.{◌≡◌, ◌∙◌, ◌^◌, false, sym, arith}
use Rattle.std.proofs.lemmas.Int.{ints}
use Rattle.std.specs.Prelude.{int_lt}
use lib.IntN.{ℤ, pos, ◌-ℤ◌, ◌*ℤ◌}
use lib.Signed.{◌≤ℤ◌}
use mir.Syntax.{w64, w128}
use mir.Val.{to_z, of_z}
use Rattle.geom.specs.Device.{centre}
use Rattle.geom.specs.Range.{IsBelow}
use Rattle.geom.proofs.Products.{lt_of}
use Rattle.scanfill.proofs.Words.{below-more, word}
use Rattle.strokes.specs.Round.{IsRoot, square}
use Rattle.strokes.proofs.Rounded.{below-less, below-sum, chord, difference-is, fits-less, fits-more, no-chord, no-columns, word-less, word-more}
use Rattle.strokes.proofs.Squares.{square-nonneg}
use Rattle.strokes.proofs.round_columns.columns_within.Goals as goal

-- what is left of the limit
left-is : (h p a b : ℤ) → h ≡ a → p ≡ b → IsBelow (2 ^ 27) h → IsBelow (2 ^ 96) p →
    to_z w128 (of_z w128 (to_z w128 (of_z w128 h) -ℤ to_z w128 (of_z w128 p))) ≡ a -ℤ b
left-is h p a b e f g k = difference-is h p (below-more (2 ^ 27) (2 ^ 98) h (omega arith) g) (below-more (2 ^ 96) (2 ^ 98) p (omega arith) k) ∙ rw (e, f)

down-is : (d c y r : ℤ) → r ≡ c → d ≡ to_z w64 (of_z w64 r) -ℤ to_z w64 (of_z w64 y) → IsBelow (2 ^ 47) r → IsBelow (2 ^ 47) y → d ≡ c -ℤ y
down-is d c y r e f p q = f ∙ rw (word (2 ^ 47) r (omega arith) p, word (2 ^ 47) y (omega arith) q, e)

limit-is : (a b : ℤ) → a ≡ to_z w64 (of_z w64 b) → IsBelow (2 ^ 27) b → a ≡ b
limit-is a b e h = e ∙ word (2 ^ 27) b (omega arith) h

limit-size : (a b : ℤ) → a ≡ to_z w64 (of_z w64 b) → IsBelow (2 ^ 27) b → IsBelow (2 ^ 27) a
limit-size a b e h = rw (e, word (2 ^ 27) b (omega arith) h) h

-- where something is left it is no more than the limit
left-size : (z a b : ℤ) → z ≡ a -ℤ b → int_lt z (pos 0) ≡ false → IsBelow (2 ^ 27) a → pos 0 ≤ℤ b → IsBelow (2 ^ 27) z
left-size z a b e none h p = record { above = omega (arith, ints, none); below = omega (arith, ints, e, h, p) }

product-is : (p d c : ℤ) → p ≡ to_z w64 (of_z w64 d) *ℤ to_z w64 (of_z w64 d) → IsBelow (2 ^ 48) d → d ≡ c → p ≡ square c
product-is p d c e h f = e ∙ rw (word (2 ^ 48) d (omega arith) h, f)

pub returns-then-left-lt0-clause-all : goal.returns-then-left-lt0-clause-all
returns-then-left-lt0-clause-all c = λ i less.
    let y = c.args.point.y in
    let down : c.difference-down.result ≡ centre (pos c.args.row) -ℤ y = down-is c.difference-down.result (centre (pos c.args.row)) y c.row_centre.result c.row_centre.ensures.value
    (rw c.y.ensures.value at c.difference-down.ensures.value) c.row_centre.ensures.range c.y.ensures.limits.down in
    let half = limit-is c.from.result c.args.limit c.from.ensures c.requires.limit in
    let away = product-is c.product.result c.difference-down.result (centre (pos c.args.row) -ℤ y) c.product.ensures.value c.difference-down.ensures.range down in
    let left = left-is c.from.result c.product.result c.args.limit (square (centre (pos c.args.row) -ℤ y)) half away
    (limit-size c.from.result c.args.limit c.from.ensures c.requires.limit) c.product.ensures.range in
    no-columns i ∙ sym (no-chord c.args.limit (square (centre (pos c.args.row) -ℤ y)) (square (centre (pos i) -ℤ c.args.point.x))
    (lt_of (c.args.limit -ℤ square (centre (pos c.args.row) -ℤ y)) (pos 0) (rw left at c.if-left-lt0.true)) (square-nonneg (centre (pos i) -ℤ c.args.point.x)))

pub short_root-half-requires-clause-range : goal.short_root-half-requires-clause-range
short_root-half-requires-clause-range c =
    let h = limit-size c.from.result c.args.limit c.from.ensures c.requires.limit in
    let nonneg : pos 0 ≤ℤ c.product.result = rw c.product.ensures.value (square-nonneg (to_z w64 (of_z w64 c.difference-down.result))) in
    let is = difference-is c.from.result c.product.result (below-more (2 ^ 27) (2 ^ 98) c.from.result (omega arith) h) (below-more (2 ^ 96) (2 ^ 98) c.product.result (omega arith) c.product.ensures.range) in
    left-size (to_z w128 (of_z w128 (to_z w128 (of_z w128 c.from.result) -ℤ to_z w128 (of_z w128 c.product.result)))) c.from.result c.product.result is c.if-left-lt0.false h nonneg

pub returns-clause-all : goal.returns-clause-all
returns-clause-all c = λ i less.
    let x = c.args.point.x in
    let y = c.args.point.y in
    let down : c.difference-down.result ≡ centre (pos c.args.row) -ℤ y = down-is c.difference-down.result (centre (pos c.args.row)) y c.row_centre.result c.row_centre.ensures.value
    (rw c.y.ensures.value at c.difference-down.ensures.value) c.row_centre.ensures.range c.y.ensures.limits.down in
    let half = limit-is c.from.result c.args.limit c.from.ensures c.requires.limit in
    let away = product-is c.product.result c.difference-down.result (centre (pos c.args.row) -ℤ y) c.product.ensures.value c.difference-down.ensures.range down in
    let left = left-is c.from.result c.product.result c.args.limit (square (centre (pos c.args.row) -ℤ y)) half away
    (limit-size c.from.result c.args.limit c.from.ensures c.requires.limit) c.product.ensures.range in
    let root : IsRoot (c.args.limit -ℤ square (centre (pos c.args.row) -ℤ y)) c.short_root-half.result = rw left at c.short_root-half.ensures.root in
    let side = below-more (2 ^ 47) (2 ^ 61) x (omega arith) c.x-x.ensures.limits.across in
    rw (
      c.x-x.ensures.value,
      word-less x c.short_root-half.result side c.short_root-half.ensures.range,
      word-more x c.short_root-half.result side c.short_root-half.ensures.range,
      chord c.args.limit (square (centre (pos c.args.row) -ℤ y)) x c.short_root-half.result (centre (pos i)) root,
    ) at (c.centres_between.ensures.all i less)

pub overflow_sub-x : goal.overflow_sub-x
overflow_sub-x c =
    let side = below-more (2 ^ 47) (2 ^ 61) c.args.point.x (omega arith) c.x-x.ensures.limits.across in
    rw c.x-x.ensures.value (fits-less c.args.point.x c.short_root-half.result side c.short_root-half.ensures.range)

pub overflow_add-x : goal.overflow_add-x
overflow_add-x c =
    let side = below-more (2 ^ 47) (2 ^ 61) c.args.point.x (omega arith) c.x-x.ensures.limits.across in
    rw c.x-x.ensures.value (fits-more c.args.point.x c.short_root-half.result side c.short_root-half.ensures.range)

pub centres_between-requires-clause-least : goal.centres_between-requires-clause-least
centres_between-requires-clause-least c =
    let side = below-more (2 ^ 47) (2 ^ 61) c.args.point.x (omega arith) c.x-x.ensures.limits.across in
    rw (c.x-x.ensures.value, word-less c.args.point.x c.short_root-half.result side c.short_root-half.ensures.range) (below-less c.args.point.x c.short_root-half.result side c.short_root-half.ensures.range)

pub centres_between-requires-clause-most : goal.centres_between-requires-clause-most
centres_between-requires-clause-most c =
    let side = below-more (2 ^ 47) (2 ^ 61) c.args.point.x (omega arith) c.x-x.ensures.limits.across in
    rw (c.x-x.ensures.value, word-more c.args.point.x c.short_root-half.result side c.short_root-half.ensures.range) (below-sum c.args.point.x c.short_root-half.result side c.short_root-half.ensures.range)
