use Rattle.std.proofs.Common.{◌≡◌, ◌∙◌, ◌&&◌, ◌*◌, ◌+◌, ◌^◌, sym, ap, arith}
use Rattle.std.specs.Prelude.{int_le}
use lib.IntN.{pos, ◌-ℤ◌}
use Rattle.geom.specs.Edge.{high_end, low_end}
use Rattle.scanfill.proofs.Words.{wide, word}
use Rattle.scanfill.specs.Runs.{has_column}
use Rattle.strokes.proofs.Keeping.{and-swap}
use Rattle.strokes.proofs.Nearness.{after-low, before-high}
use Rattle.strokes.proofs.segment.columns_between.Goals as goal

pub returns-clause-all : goal.returns-clause-all
returns-clause-all c = λ i.
    let e = c.args.edge in
    let from : c.from-after.result ≡ c.difference.result = c.from-after.ensures ∙ word (2 ^ 48) c.difference.result (omega arith) c.difference.ensures.range in
    let to : c.from-before.result ≡ c.difference-2.result = c.from-before.ensures ∙ word (2 ^ 48) c.difference-2.result (omega arith) c.difference-2.ensures.range in
    let after : c.difference.result ≡ pos 8 -ℤ (low_end e).y =
    rw (c.y.ensures.value, word (2 ^ 47) c.low_end.result.y (omega arith) c.y.ensures.limits.down, c.low_end.ensures) at c.difference.ensures.value in
    let before : c.difference-2.result ≡ (high_end e).y -ℤ pos 8 =
    rw (c.y-2.ensures.value, word (2 ^ 47) c.high_end.result.y (omega arith) c.y-2.ensures.limits.down, c.high_end.ensures) at c.difference-2.ensures.value in
    let first : has_column c.kept.result i ≡ (has_column c.args.span i && int_le (low_end e).y (pos (16 * i + 8))) =
    rw (from, wide (2 ^ 48) c.difference.result (omega arith) c.difference.ensures.range, after, after-low i (low_end e).y) at (c.kept.ensures.all i) in
    let second : has_column c.kept-2.result i ≡ (has_column c.kept.result i && int_le (pos (16 * i + 8)) (high_end e).y) =
    rw (to, wide (2 ^ 48) c.difference-2.result (omega arith) c.difference-2.ensures.range, before, before-high i (high_end e).y) at (c.kept-2.ensures.all i) in
    second ∙ (ap (λ t. t && int_le (pos (16 * i + 8)) (high_end e).y) first ∙ sym (and-swap (has_column c.args.span i) (int_le (low_end e).y (pos (16 * i + 8))) (int_le (pos (16 * i + 8)) (high_end e).y)))
