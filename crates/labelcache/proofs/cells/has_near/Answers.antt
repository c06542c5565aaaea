use Rattle.std.proofs.Common.{◌≡◌, ◌∙◌, ◌/◌, ◌^◌, ◌==◌, IsTrue, not, sym, ⊎_elim}
use Rattle.std.proofs.lemmas.Bool.{false≢true}
use Rattle.labelcache.specs.Cells.{apart}
use Rattle.labelcache.proofs.Around.{leg-down}
use Rattle.labelcache.proofs.cells.has_near.Goals as goal

pub returns-then-rows-clause-complete : goal.returns-then-rows-clause-complete
returns-then-rows-clause-complete c = λ p marked near.
    let point = c.args.point in
    let down = leg-down (apart point.column p.column) (apart point.row p.row) c.args.distance near in
    ⊎_elim
    (λ first. absurd (false≢true (sym c.if-row_finds.false ∙ c.row_finds.ensures.complete p marked first near)))
    (λ last. c.row_finds-then-rows.ensures.complete p marked last near)
    (c.around-rows.ensures.has p.row down)

pub returns-else-rows-clause-complete : goal.returns-else-rows-clause-complete
returns-else-rows-clause-complete c = λ p marked near.
    let point = c.args.point in
    let down = leg-down (apart point.column p.column) (apart point.row p.row) c.args.distance near in
    let absent : p.row / 2 ^ 17 ≡ c.around-rows.result.first → IsTrue (not (c.around-rows.result.last == c.around-rows.result.first)) = λ row. absurd (false≢true (sym c.if-row_finds.false ∙ c.row_finds.ensures.complete p marked row near)) in
    ⊎_elim absent (λ last. absent (last ∙ c.if-rows.false)) (c.around-rows.ensures.has p.row down)
