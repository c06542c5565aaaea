use Rattle.std.proofs.Common.{◌≡◌, ◌∙◌, arith, to_z, of_z, w64}
use Rattle.std.proofs.lemmas.Int.{ints}
use Rattle.compose.proofs.Reaching.{above-all, below-all, right-of-all}
use Rattle.compose.proofs.reach.may_show.Goals as goal

pub returns-then-is_after : goal.returns-then-is_after
returns-then-is_after c =
    let held : to_z w64 (of_z w64 c.i.result) ≡ c.i.result = omega (arith, ints, c.i.type_inv) in
    λ no. right-of-all c.args.font.now c.get-fields.result.now c.args.reach c.args.at c.args.sides.width c.args.sides.height (to_z w64 (of_z w64 c.i.result)) c.get-fields.ensures.value c.get-fields.ensures.limits
    (held ∙ c.i.ensures.value) (rw (c.from-side.ensures, c.pixels_of-more.ensures.value) at (c.is_after.ensures c.if-is_after.true))

pub returns-then-is_after-2 : goal.returns-then-is_after-2
returns-then-is_after-2 c =
    let held : to_z w64 (of_z w64 c.line_of-line.result) ≡ c.line_of-line.result = omega (arith, ints, c.line_of-line.type_inv) in
    λ no. below-all c.args.font.now c.get-fields.result.now c.args.reach c.args.at c.args.sides.width c.args.sides.height (to_z w64 (of_z w64 c.line_of-line.result)) c.get-fields.ensures.value c.get-fields.ensures.limits
    (held ∙ c.line_of-line.ensures.value) (rw (c.from-side.ensures, c.pixels_of-more.ensures.value) at (c.is_after-2.ensures c.if-is_after-2.true))

pub returns : goal.returns
returns c =
    let held : to_z w64 (of_z w64 c.line_of-line.result) ≡ c.line_of-line.result = omega (arith, ints, c.line_of-line.type_inv) in
    λ shown. above-all c.args.font.now c.get-fields.result.now c.args.reach c.args.at c.args.sides.width c.args.sides.height (to_z w64 (of_z w64 c.line_of-line.result)) c.get-fields.ensures.value c.get-fields.ensures.limits
    (held ∙ c.line_of-line.ensures.value) (omega (arith, ints, shown, c.from.ensures, c.from-side.ensures, c.pixels_of-more.ensures))
