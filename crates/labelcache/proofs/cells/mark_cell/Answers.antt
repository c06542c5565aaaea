use Rattle.labelcache.proofs.Marking.{marks-more, marks-only}
use Rattle.labelcache.proofs.cells.mark_cell.Goals as goal

pub returns-in-Ok-clause-grows : goal.returns-in-Ok-clause-grows
returns-in-Ok-clause-grows c = λ q h. marks-more c.args.marked.now c.insert.new.self c.args.cell q c.in-Ok.ensures.updates h

pub returns-in-Ok-clause-only : goal.returns-in-Ok-clause-only
returns-in-Ok-clause-only c = λ q h. marks-only c.args.marked.now c.insert.new.self c.args.cell q c.in-Ok.ensures.updates h
