use Rattle.std.proofs.Common.{◌≡◌, ◌∙◌, ◌/◌, ◌^◌, IsTrue, false, sym, ⊎_elim}
use Rattle.std.proofs.lemmas.Bool.{false≢true}
use Rattle.labelcache.specs.Cells.{apart}
use Rattle.labelcache.proofs.Around.{is-top, leg-across}
use Rattle.labelcache.proofs.cells.row_finds.Goals as goal

pub returns-then-columns-clause-complete : goal.returns-then-columns-clause-complete
returns-then-columns-clause-complete c = λ p marked row near.
    let point = c.args.point in
    let d = c.args.distance in
    let across = leg-across (apart point.column p.column) (apart point.row p.row) d near in
    let absent : p.column / 2 ^ 17 ≡ c.around-columns.result.first → IsTrue false = λ column. absurd (false≢true (sym c.if-finds.false ∙ c.finds.ensures.complete p marked (is-top p c.around-columns.result.first c.args.row column row) near)) in
    ⊎_elim absent (λ last. absent (last ∙ c.if-columns.true)) (c.around-columns.ensures.has p.column across)

pub returns-clause-complete : goal.returns-clause-complete
returns-clause-complete c = λ p marked row near.
    let point = c.args.point in
    let d = c.args.distance in
    let across = leg-across (apart point.column p.column) (apart point.row p.row) d near in
    ⊎_elim
    (λ first. absurd (false≢true (sym c.if-finds.false ∙ c.finds.ensures.complete p marked (is-top p c.around-columns.result.first c.args.row first row) near)))
    (λ last. c.finds-2.ensures.complete p marked (is-top p c.around-columns.result.last c.args.row last row) near)
    (c.around-columns.ensures.has p.column across)
