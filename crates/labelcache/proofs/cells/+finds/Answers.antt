use Rattle.std.proofs.Common.{◌<◌, ◌^◌, sym, ◌∙◌, ⊎_elim, arith}
use Rattle.std.proofs.lemmas.Bool.{false≢true}
use Rattle.labelcache.proofs.Nesting.{in-quarter, index-below}
use Rattle.labelcache.proofs.cells.+finds.Goals as goal

pub returns-clause-complete : goal.returns-clause-complete
returns-clause-complete t c = λ p marked is near.
    let some : 0 < c.args.cell.level = omega (arith, c.if-cell-eq0.false) in
    ⊎_elim
    (λ left. ⊎_elim
    (λ e. absurd (false≢true (sym c.if-finds.false ∙ c.finds.ensures.complete p marked (rw c.child_of.ensures.value e) near)))
    (λ e. absurd (false≢true (sym c.if-finds-2.false ∙ c.finds-2.ensures.complete p marked (rw c.child_of-2.ensures.value e) near)))
    left)
    (λ right. ⊎_elim
    (λ e. absurd (false≢true (sym c.if-finds-3.false ∙ c.finds-3.ensures.complete p marked (rw c.child_of-3.ensures.value e) near)))
    (λ e. c.finds-4.ensures.complete p marked (rw c.child_of-4.ensures.value e) near)
    right)
    (in-quarter c.args.cell p some is)

pub child_of-requires-4-clause-columns : goal.child_of-requires-4-clause-columns
child_of-requires-4-clause-columns t c = index-below c.args.cell.column c.args.cell.level (2 ^ 34) c.requires.cell.column

pub child_of-requires-4-clause-rows : goal.child_of-requires-4-clause-rows
child_of-requires-4-clause-rows t c = index-below c.args.cell.row c.args.cell.level (2 ^ 34) c.requires.cell.row
