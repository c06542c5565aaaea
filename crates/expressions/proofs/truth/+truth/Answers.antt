use Rattle.std.proofs.Common.{sym, ◌∙◌, ap, not}
use Rattle.mapdefs.specs.Truth.{truth}
use Rattle.expressions.proofs.Truths.{truth-or, truth-and, truth-not}
use Rattle.expressions.proofs.truth.+truth.Goals as goal

pub is_expr_true-returns-in-Or : goal.is_expr_true-returns-in-Or
is_expr_true-returns-in-Or t c =
    let f = truth c.args.names.now c.args.values.now in
    rw c.as_slice.ensures at c.is_any_true.ensures ∙ sym (ap f c.in-Or.is ∙ truth-or c.args.names.now c.args.values.now c.in-Or.parts)

pub is_expr_true-returns-in-And : goal.is_expr_true-returns-in-And
is_expr_true-returns-in-And t c =
    let f = truth c.args.names.now c.args.values.now in
    rw c.as_slice-in-And.ensures at c.are_all_true.ensures ∙ sym (ap f c.in-And.is ∙ truth-and c.args.names.now c.args.values.now c.in-And.parts)

pub is_expr_true-returns-in-Not : goal.is_expr_true-returns-in-Not
is_expr_true-returns-in-Not t c =
    let f = truth c.args.names.now c.args.values.now in
    ap not (rw c.get.ensures at c.is_expr_true.ensures) ∙ sym (ap f c.in-Not.is ∙ truth-not c.args.names.now c.args.values.now c.in-Not.part)
