use Rattle.scanfill.proofs.polygon.PolygonCover.rows.Goals as goal

pub returns-clause-none : goal.returns-clause-none
returns-clause-none c = λ i j column row out. rw (← c.self.view_is) (rw c.deref.ensures.value at (c.crossed_rows.ensures.none i j row out))
