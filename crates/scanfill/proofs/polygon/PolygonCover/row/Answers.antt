use Rattle.scanfill.proofs.polygon.PolygonCover.row.Goals as goal

pub returns-in-Ok-clause-ok : goal.returns-in-Ok-clause-ok
returns-in-Ok-clause-ok c = rw (← c.self.view_is) c.in-Ok.ensures
