use Rattle.strokes.proofs.round_line.RoundLineCover.rows.Goals as goal

pub returns-clause-none : goal.returns-clause-none
returns-clause-none c = λ i j column row out. rw (← c.self.view_is) (rw c.deref.ensures.value at (c.rows_of_all.ensures.none i j column row out))
