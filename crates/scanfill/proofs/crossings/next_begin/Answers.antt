use Rattle.std.proofs.Common.{◌≡◌, ◌≤◌, ◌∙◌, ap, arith, get_or}
use Rattle.std.proofs.lemmas.List.{get_or_default}
use Rattle.scanfill.specs.Crossing.{row_of}
use Rattle.scanfill.proofs.crossings.next_begin.Goals as goal

pub returns-then-begun-list-clause-least : goal.returns-then-begun-list-clause-least
returns-then-begun-list-clause-least c = λ k d from past.
    let xs = c.args.list.now in
    let x = c.index-list-begun.result in
    let is : row_of x ≡ row_of (get_or xs c.args.begun d) = ap row_of (c.index-list-begun.is ∙ get_or_default xs c.args.begun x d (omega arith)) in
    let rises : row_of (get_or xs c.args.begun d) ≤ row_of (get_or xs k d) = c.requires.order c.args.begun k d (omega arith) from past in
    omega (arith, c.row.ensures, c.min.ensures)

pub returns-then-begun-list-clause-from : goal.returns-then-begun-list-clause-from
returns-then-begun-list-clause-from c = λ row last waiting.
    let xs = c.args.list.now in
    let x = c.index-list-begun.result in
    let is : row_of x ≡ row_of (get_or xs c.args.begun x) = ap row_of c.index-list-begun.is in
    let waits : row ≤ row_of (get_or xs c.args.begun x) = waiting c.args.begun x (omega arith) (omega arith) in
    omega (arith, c.row.ensures, c.min.ensures)
