use Rattle.geom.proofs.Integers.{coordinate_difference-is}
use Rattle.geom.proofs.edge.Edge.run.Goals as goal

pub returns-clause-value : goal.returns-clause-value
returns-clause-value c =
    rw (
      coordinate_difference-is _ _ _ _ c.x.ensures.value c.x-2.ensures.value c.x.ensures.limits.across c.x-2.ensures.limits.across,
      c.high_end.ensures,
      c.low_end.ensures,
    )
