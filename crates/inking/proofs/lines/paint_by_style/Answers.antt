use Rattle.std.proofs.Common.{◌≡◌, ◌∙◌, true, false, nat_lt, arith}
use Rattle.std.proofs.lemmas.Bool.Decides.{nat_tests}
use Rattle.std.proofs.lemmas.Result.{on_ok_weaker}
use Rattle.canvas.proofs.Painting.{painted-none}
use Rattle.inking.proofs.Stroking.{rounded, stroked}
use Rattle.inking.proofs.lines.paint_by_style.Goals as goal

pub returns-in_default : goal.returns-in_default
returns-in_default c = rw (← c.get-style.ensures.value, c.in_default.is) (painted-none c.args.canvas.now)

pub paint_round_line-requires : goal.paint_round_line-requires
paint_round_line-requires c =
    rw (c.in_ok-pen.ensures.value, c.in_ok-pen.ensures.same) (record { columns = c.requires.width; rows = c.requires.height })

pub returns-then-times-gt1 : goal.returns-then-times-gt1
returns-then-times-gt1 c =
    let more : nat_lt 1 c.args.scene.now.view.factor ≡ true = grind (arith, nat_tests, c.if-times-gt1.true, c.times.ensures.value ∙ c.factor.ensures) in
    on_ok_weaker c.paint_round_line.result
    (λ filled. rw (← c.get-style.ensures.value, c.in-Some.is) (rounded c.in_ok-pen.pen c.args.parts.now false c.get-style.result.now.width c.in-Some.colour c.args.scene.now.view c.args.canvas.now c.paint_round_line.new.canvas c.in_ok-pen.ensures.value more (rw c.of_map.ensures.same at filled)))
    c.paint_round_line.ensures

pub paint_along_parts-requires : goal.paint_along_parts-requires
paint_along_parts-requires c =
    rw (c.of_map-pen.ensures.value, c.of_map-pen.ensures.same) (record { columns = c.requires.width; rows = c.requires.height })

pub returns : goal.returns
returns c =
    let one : nat_lt 1 c.args.scene.now.view.factor ≡ false = grind (arith, nat_tests, c.if-times-gt1.false, c.times.ensures.value ∙ c.factor.ensures) in
    on_ok_weaker c.paint_along_parts.result
    (λ filled. rw (← c.get-style.ensures.value, c.in-Some.is) (stroked c.of_map-pen.result c.args.parts.now false c.get-style.result.now.width c.in-Some.colour c.args.scene.now.view c.args.canvas.now c.paint_along_parts.new.canvas c.of_map-pen.ensures.value one (rw c.of_map-pen.ensures.same at filled)))
    c.paint_along_parts.ensures
