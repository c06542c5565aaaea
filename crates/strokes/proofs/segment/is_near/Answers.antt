use Rattle.std.proofs.Common.{◌≡◌, ◌∙◌, ◌*◌, ◌^◌, arith}
use Rattle.std.proofs.lemmas.Int.{ints}
use lib.IntN.{pos, ◌*ℤ◌}
use Rattle.geom.specs.Edge.{rise}
use Rattle.scanfill.proofs.Words.{wide, word}
use Rattle.strokes.specs.Segment.{right_of}
use Rattle.strokes.proofs.Nearness.{near-then, near-else}
use Rattle.strokes.proofs.segment.is_near.Goals as goal

pub returns-then-reach-right : goal.returns-then-reach-right
returns-then-reach-right c =
    let e = c.args.edge in
    let right : c.twice-right.result ≡ pos 2 *ℤ right_of e c.args.point =
    rw (wide (2 ^ 97) c.right_of.result (omega arith) c.right_of.ensures.range, c.right_of.ensures.value) at c.twice-right.ensures.value in
    let same : c.from-reach.result ≡ c.reach.result = omega (arith, ints, c.from-reach.ensures, c.reach.ensures.range) in
    let reach : c.reach.result ≡ pos (16 * c.args.width) *ℤ rise e =
    rw (word (2 ^ 48) c.rise.result (omega arith) c.rise.ensures.range, c.rise.ensures.value) at c.reach.ensures.value in
    near-then c.from-reach.result c.twice-right.result _ _ (rw same c.reach.ensures.range) c.twice-right.ensures.range (same ∙ reach) right c.if-reach-right.true

pub returns-else-reach-right : goal.returns-else-reach-right
returns-else-reach-right c =
    let e = c.args.edge in
    let right : c.twice-right.result ≡ pos 2 *ℤ right_of e c.args.point =
    rw (wide (2 ^ 97) c.right_of.result (omega arith) c.right_of.ensures.range, c.right_of.ensures.value) at c.twice-right.ensures.value in
    let same : c.from-reach.result ≡ c.reach.result = omega (arith, ints, c.from-reach.ensures, c.reach.ensures.range) in
    let reach : c.reach.result ≡ pos (16 * c.args.width) *ℤ rise e =
    rw (word (2 ^ 48) c.rise.result (omega arith) c.rise.ensures.range, c.rise.ensures.value) at c.reach.ensures.value in
    near-else c.from-reach.result c.twice-right.result _ _ (rw same c.reach.ensures.range) c.twice-right.ensures.range (same ∙ reach) right c.if-reach-right.false
