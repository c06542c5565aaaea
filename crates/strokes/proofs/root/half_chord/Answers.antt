use Rattle.std.proofs.Common.{◌≡◌, ◌∙◌, ℕ, ◌<◌, ◌^◌, arith}
use Rattle.std.proofs.lemmas.Int.{ints}
use lib.IntN.{ℤ, pos, ◌-ℤ◌, ◌*ℤ◌}
use mir.Syntax.{w64, w128}
use mir.Val.{to_z, of_z}
use Rattle.geom.specs.Range.{IsBelow}
use Rattle.scanfill.proofs.Words.{below-more, word}
use Rattle.strokes.specs.Round.{square, square_of_half}
use Rattle.strokes.proofs.Chording.{within-half}
use Rattle.strokes.proofs.Rounded.{difference-is}
use Rattle.strokes.proofs.root.half_chord.Goals as goal

half-is : (a b w : ℤ) → a ≡ to_z w64 (of_z w64 b) → IsBelow (2 ^ 21) b → b ≡ w → a ≡ w
half-is a b w e h f = e ∙ (word (2 ^ 21) b (omega arith) h ∙ f)

half-size : (a b : ℤ) → a ≡ to_z w64 (of_z w64 b) → IsBelow (2 ^ 21) b → IsBelow (2 ^ 98) a
half-size a b e h = rw (e, word (2 ^ 21) b (omega arith) h) (below-more (2 ^ 21) (2 ^ 98) b (omega arith) h)

left-is : (h p a b : ℤ) → h ≡ a → p ≡ b → IsBelow (2 ^ 98) h → IsBelow (2 ^ 96) p →
    to_z w128 (of_z w128 (to_z w128 (of_z w128 h) -ℤ to_z w128 (of_z w128 p))) ≡ a -ℤ b
left-is h p a b e f g k = difference-is h p g (below-more (2 ^ 96) (2 ^ 98) p (omega arith) k) ∙ rw (e, f)

down-is : (p d : ℤ) (n : ℕ) → p ≡ to_z w64 (of_z w64 d) *ℤ to_z w64 (of_z w64 d) → d ≡ pos n → n < 2 ^ 16 → p ≡ square (pos n)
down-is p d n e f h = e ∙ rw (f, word (2 ^ 16) (pos n) (omega arith) (record { above = omega (arith, ints); below = omega (arith, ints, h) }))

pub root-requires-clause-least : goal.root-requires-clause-least
root-requires-clause-least c =
    let half = half-is c.from.result c.square_of_half.result (square_of_half c.args.width) c.from.ensures c.square_of_half.ensures.range c.square_of_half.ensures.value in
    let down = down-is c.product.result c.from-down.result c.args.down c.product.ensures.value c.from-down.ensures (omega (arith, c.requires.width, c.requires.down)) in
    rw (left-is c.from.result c.product.result (square_of_half c.args.width) (square (pos c.args.down)) half down
    (half-size c.from.result c.square_of_half.result c.from.ensures c.square_of_half.ensures.range) c.product.ensures.range)
    (within-half c.args.width c.args.down c.requires.down)

pub root-requires-clause-range : goal.root-requires-clause-range
root-requires-clause-range c =
    let size = half-size c.from.result c.square_of_half.result c.from.ensures c.square_of_half.ensures.range in
    rw (difference-is c.from.result c.product.result size (below-more (2 ^ 96) (2 ^ 98) c.product.result (omega arith) c.product.ensures.range))
    (record { above = omega (arith, ints, size, c.product.ensures.range); below = omega (arith, ints, size, c.product.ensures.range) })

pub returns-clause-root : goal.returns-clause-root
returns-clause-root c =
    let half = half-is c.from.result c.square_of_half.result (square_of_half c.args.width) c.from.ensures c.square_of_half.ensures.range c.square_of_half.ensures.value in
    let down = down-is c.product.result c.from-down.result c.args.down c.product.ensures.value c.from-down.ensures (omega (arith, c.requires.width, c.requires.down)) in
    rw (word (2 ^ 61) c.root.result (omega arith) c.root.ensures.range)
    (rw (left-is c.from.result c.product.result (square_of_half c.args.width) (square (pos c.args.down)) half down
    (half-size c.from.result c.square_of_half.result c.from.ensures c.square_of_half.ensures.range) c.product.ensures.range) at c.root.ensures.root)
