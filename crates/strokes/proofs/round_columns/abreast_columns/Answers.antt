use Rattle.std.proofs.Common.{◌≡◌, ◌∙◌, ◌&&◌, ◌^◌, sym, ap, arith}
use Rattle.std.specs.Prelude.{int_lt}
use Rattle.std.proofs.lemmas.Int.{ints}
use lib.IntN.{pos, neg_ℤ, ◌+ℤ◌, ◌-ℤ◌, ◌*ℤ◌}
use Rattle.geom.specs.Edge.{EdgeEnds}
use Rattle.scanfill.proofs.Words.{below-more, wide, word}
use Rattle.scanfill.specs.Runs.{has_column}
use Rattle.strokes.specs.Round.{along, apart}
use Rattle.strokes.proofs.Keeping.{and-swap}
use Rattle.strokes.proofs.Rounded.{along-step, kept-before, kept-past, less-one}
use Rattle.strokes.proofs.round_columns.abreast_columns.Goals as goal

pub overflow_sub-along : goal.overflow_sub-along
overflow_sub-along c = omega (arith, ints, c.along-along.ensures.range)

pub kept-requires-clause-scale : goal.kept-requires-clause-scale
kept-requires-clause-scale c = rw (word (2 ^ 52) c.step-across.result (omega arith) c.step-across.ensures.range)
    (below-more (2 ^ 52) (2 ^ 54) c.step-across.result (omega arith) c.step-across.ensures.range)

pub kept-requires-clause-offset : goal.kept-requires-clause-offset
kept-requires-clause-offset c = rw (less-one c.along-along.result (below-more (2 ^ 97) (2 ^ 98) c.along-along.result (omega arith) c.along-along.ensures.range))
    (record { above = omega (arith, ints, c.along-along.ensures.range); below = omega (arith, ints, c.along-along.ensures.range) })

pub kept-requires-2-clause-scale : goal.kept-requires-2-clause-scale
kept-requires-2-clause-scale c = rw (word (2 ^ 52) c.opposite.result (omega arith) c.opposite.ensures.range)
    (below-more (2 ^ 52) (2 ^ 54) c.opposite.result (omega arith) c.opposite.ensures.range)

pub returns-clause-all : goal.returns-clause-all
returns-clause-all c = λ i.
    let e : EdgeEnds = record { from = c.args.from; to = c.args.to } in
    let s = pos 16 *ℤ (e.to.x -ℤ e.from.x) in
    let a = along e c.args.first in
    let d = apart e.from e.to in
    let step : c.step-across.result ≡ s =
    rw (word (2 ^ 48) c.across.result (omega arith) c.across.ensures.range, c.across.ensures.value) at c.step-across.ensures.value in
    let back : c.opposite.result ≡ neg_ℤ s = rw (word (2 ^ 52) c.step-across.result (omega arith) c.step-across.ensures.range, step) at c.opposite.ensures.value in
    let left : c.minus_wide-left.result ≡ d -ℤ a = rw (
      wide (2 ^ 97) c.apart.result (omega arith) c.apart.ensures.range,
      c.apart.ensures.value,
      wide (2 ^ 97) c.along-along.result (omega arith) c.along-along.ensures.range,
      c.along-along.ensures.value,
    ) at c.minus_wide-left.ensures.value in
    let past = int_lt (pos 0) (pos i *ℤ s +ℤ a) in
    let before = int_lt (pos i *ℤ s +ℤ a) d in
    let one : has_column c.kept.result i ≡ (has_column c.args.span i && past) = rw (
      word (2 ^ 52) c.step-across.result (omega arith) c.step-across.ensures.range,
      step,
      less-one c.along-along.result (below-more (2 ^ 97) (2 ^ 98) c.along-along.result (omega arith) c.along-along.ensures.range),
      c.along-along.ensures.value,
      kept-past i s a,
    ) at (c.kept.ensures.all i) in
    let two : has_column c.kept-2.result i ≡ (has_column c.kept.result i && before) = rw (
      word (2 ^ 52) c.opposite.result (omega arith) c.opposite.ensures.range,
      back,
      less-one c.minus_wide-left.result c.minus_wide-left.ensures.range,
      left,
      kept-before i s a d,
    ) at (c.kept-2.ensures.all i) in
    rw (along-step e c.args.first i) (two ∙ (ap (λ t. t && before) one ∙ sym (and-swap (has_column c.args.span i) past before)))
