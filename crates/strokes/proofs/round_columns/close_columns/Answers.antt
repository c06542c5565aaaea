use Rattle.std.proofs.Common.{◌≡◌, ◌∙◌, ◌&&◌, ◌^◌, sym, ap, arith}
use Rattle.std.specs.Prelude.{int_le}
use lib.IntN.{pos, neg_ℤ, ◌-ℤ◌, ◌*ℤ◌}
use Rattle.geom.specs.Range.{IsBelow}
use Rattle.scanfill.proofs.Words.{below-more, word}
use Rattle.scanfill.specs.Runs.{has_column}
use Rattle.strokes.proofs.Keeping.{and-swap}
use Rattle.strokes.proofs.Rounded.{difference-is, kept-least, kept-most, sum-is}
use Rattle.strokes.proofs.round_columns.close_columns.Goals as goal

pub returns-clause-all : goal.returns-clause-all
returns-clause-all c = λ i.
    let s = c.args.step in
    let a = c.args.first in
    let r = c.args.reach in
    let reach : c.from-reach.result ≡ r = c.from-reach.ensures ∙ word (2 ^ 61) r (omega arith) c.requires.reach in
    let reach_size : IsBelow (2 ^ 98) c.from-reach.result = rw reach (below-more (2 ^ 61) (2 ^ 98) r (omega arith) c.requires.reach) in
    let first_size = below-more (2 ^ 97) (2 ^ 98) a (omega arith) c.requires.first in
    let back : c.opposite.result ≡ neg_ℤ s = c.opposite.ensures.value ∙ ap (λ z. neg_ℤ z) (word (2 ^ 52) s (omega arith) c.requires.step) in
    let least = int_le (neg_ℤ r) (a -ℤ pos i *ℤ s) in
    let most = int_le (a -ℤ pos i *ℤ s) r in
    let one : has_column c.kept.result i ≡ (has_column c.args.span i && least) =
    rw (word (2 ^ 52) c.opposite.result (omega arith) c.opposite.ensures.range, back, sum-is c.from-reach.result a reach_size first_size, reach, kept-least i s a r) at (c.kept.ensures.all i) in
    let two : has_column c.kept-2.result i ≡ (has_column c.kept.result i && most) =
    rw (word (2 ^ 52) s (omega arith) c.requires.step, difference-is c.from-reach.result a reach_size first_size, reach, kept-most i s a r) at (c.kept-2.ensures.all i) in
    two ∙ (ap (λ t. t && most) one ∙ sym (and-swap (has_column c.args.span i) least most))
