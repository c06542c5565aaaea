use Rattle.std.proofs.Common.{◌≡◌, ◌∙◌, ◌&&◌, ◌^◌, sym, ap, arith}
use Rattle.std.proofs.lemmas.Int.{ints}
use Rattle.std.specs.Prelude.{int_le, int_lt}
use lib.IntN.{pos, neg_ℤ, ◌+ℤ◌, ◌*ℤ◌}
use Rattle.geom.specs.Range.{IsBelow}
use Rattle.scanfill.proofs.Words.{wide}
use Rattle.scanfill.specs.Runs.{has_column}
use Rattle.strokes.proofs.Keeping.{and-swap}
use Rattle.strokes.proofs.Nearness.{fall-is, near-left, near-right, offset_left-is, offset_right-is, scale-is}
use Rattle.strokes.proofs.segment.near_columns.Goals as goal

pub returns-clause-all : goal.returns-clause-all
returns-clause-all c = λ i.
    let s = c.args.ramp.step in
    let b = c.args.reach in
    let most : c.twice.result ≡ pos 2 *ℤ c.args.ramp.most = rw (wide (2 ^ 97) c.args.ramp.most (omega arith) c.requires.most) at c.twice.ensures.value in
    let least : c.twice-2.result ≡ pos 2 *ℤ c.args.ramp.least = rw (wide (2 ^ 97) c.args.ramp.least (omega arith) c.requires.least) at c.twice-2.ensures.value in
    let reach : c.from-reach.result ≡ b = omega (arith, ints, c.from-reach.ensures, c.requires.reach) in
    let below : IsBelow (2 ^ 59) c.from-reach.result = rw reach c.requires.reach in
    let over = int_lt (neg_ℤ b) (pos 2 *ℤ (pos i *ℤ s +ℤ c.args.ramp.most)) in
    let under = int_le (pos 2 *ℤ (pos i *ℤ s +ℤ c.args.ramp.least)) b in
    let first : has_column c.kept.result i ≡ (has_column c.args.span i && over) =
    rw (scale-is s c.requires.step, offset_left-is c.twice.result c.from-reach.result c.twice.ensures.range below, most, reach, near-left (pos i) s c.args.ramp.most b)
    at (c.kept.ensures.all i) in
    let second : has_column c.kept-2.result i ≡ (has_column c.kept.result i && under) =
    rw (fall-is s c.requires.step, offset_right-is c.twice-2.result c.from-reach.result c.twice-2.ensures.range below, least, reach, near-right (pos i) s c.args.ramp.least b)
    at (c.kept-2.ensures.all i) in
    second ∙ (ap (λ t. t && under) first ∙ sym (and-swap (has_column c.args.span i) over under))
