use Rattle.scanfill.proofs.Counting.{count-skipped}
use Rattle.scanfill.proofs.crossings.Crossings.skip.Goals as goal

pub returns-clause-empty : goal.returns-clause-empty
returns-clause-empty c = λ i j from past.
    let s = c.args.self.now in
    count-skipped s.list.items s.row s.passed s.begun c.next_begin-self.result i j s.ordered c.if-self.false from past (rw c.deref.ensures.value at c.next_begin-self.ensures.least)
