use Rattle.std.proofs.Common.{◌≡◌, ◌<◌, ◌≤◌, ⊎_elim, arith}
use Rattle.std.proofs.lemmas.Bool.{cases_lt}
use Rattle.std.specs.Prelude.{IsTrue}
use Rattle.labelcache.specs.Cells.{cell_of, has}
use Rattle.labelcache.proofs.Noting.{ok-then}
use Rattle.labelcache.proofs.cells.mark_point.Goals as goal

pub returns-clause-done : goal.returns-clause-done
returns-clause-done c =
    ok-then c.mark_cell.result
    (λ (lowest : IsTrue (has c.mark_cell.new.marked c.cell_of.result)). λ level most. ⊎_elim
    (λ (some : 0 < level). c.mark_cell.ensures.grows (cell_of level c.args.point) (c.in_ok-mark_above.ensures.done level some most))
    (λ (none : level ≤ 0).
    let e : level ≡ 0 = omega (arith, none) in
    rw e (rw c.cell_of.ensures at lowest))
    (cases_lt 0 level))
    c.mark_cell.ensures.done
