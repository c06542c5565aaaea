use Rattle.std.proofs.Common.{◌≡◌, ◌∙◌, drop, sym, arith}
use Rattle.std.specs.Str.{chars}
use Rattle.compose.proofs.Cutting.{boundary, few-bytes, front, next-left, none-left, parted, parted-length, short, whole}
use Rattle.compose.proofs.label.first_characters.Goals as goal

pub returns-then-text-most-clause-cut : goal.returns-then-text-most-clause-cut
returns-then-text-most-clause-cut c = whole c.args.text.now c.args.most c.utf8.text (few-bytes c.args.text.now c.args.most c.utf8.text c.if-text-most.true)

pub returns-then-text-most-clause-short : goal.returns-then-text-most-clause-short
returns-then-text-most-clause-short c = few-bytes c.args.text.now c.args.most c.utf8.text c.if-text-most.true

pub returns-in_default-clause-cut : goal.returns-in_default-clause-cut
returns-in_default-clause-cut c =
    let few = none-left c.args.text.now c.loop-count.count (sym c.in_default.ensures.chars ∙ c.loop-count.invariant.left) in
    whole c.args.text.now c.args.most c.utf8.text (omega (arith, few, c.loop-count.invariant.count))

pub returns-in_default-clause-short : goal.returns-in_default-clause-short
returns-in_default-clause-short c =
    let few = none-left c.args.text.now c.loop-count.count (sym c.in_default.ensures.chars ∙ c.loop-count.invariant.left) in
    omega (arith, few, c.loop-count.invariant.count)

pub loop-count-preserved : goal.loop-count-preserved
loop-count-preserved c = record {
  count = omega (arith, c.loop-count-test.true);
  utf8 = c.in-Some.ensures.utf8;
  left = next-left _ (chars c.loop-count.rest.now) (chars c.in-Some.after.now) (chars c.args.text.now) c.loop-count.count c.loop-count.invariant.left c.in-Some.ensures.chars;
}

pub overflow_sub-text : goal.overflow_sub-text
overflow_sub-text c =
    omega (arith, parted-length c.args.text.now c.loop-count.rest.now c.loop-count.count c.utf8.text c.loop-count.invariant.utf8 c.loop-count.invariant.left)

pub range-requires-clause-end_boundary : goal.range-requires-clause-end_boundary
range-requires-clause-end_boundary c = boundary c.args.text.now c.loop-count.rest.now c.loop-count.count c.utf8.text c.loop-count.invariant.utf8 c.loop-count.invariant.left

pub returns-clause-cut : goal.returns-clause-cut
returns-clause-cut c =
    let all : c.loop-count.count ≡ c.args.most = omega (arith, c.loop-count.invariant.count, c.loop-count-test.false) in
    let left : chars c.loop-count.rest.now ≡ drop c.args.most (chars c.args.text.now) = rw all at c.loop-count.invariant.left in
    c.range.ensures.value ∙ front c.args.text.now c.loop-count.rest.now c.args.most c.utf8.text c.loop-count.invariant.utf8 left

pub returns-clause-short : goal.returns-clause-short
returns-clause-short c =
    let all : c.loop-count.count ≡ c.args.most = omega (arith, c.loop-count.invariant.count, c.loop-count-test.false) in
    let left : chars c.loop-count.rest.now ≡ drop c.args.most (chars c.args.text.now) = rw all at c.loop-count.invariant.left in
    let cut = c.range.ensures.value ∙ front c.args.text.now c.loop-count.rest.now c.args.most c.utf8.text c.loop-count.invariant.utf8 left in
    short c.args.text.now c.range.result.now c.loop-count.rest.now c.args.most
    (rw cut (parted c.args.text.now c.loop-count.rest.now c.args.most c.utf8.text c.loop-count.invariant.utf8 left)) c.range.utf8 left
