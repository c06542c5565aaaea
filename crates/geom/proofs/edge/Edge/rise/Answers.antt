use Rattle.geom.proofs.Integers.{coordinate_difference-is}
use Rattle.geom.proofs.edge.Edge.rise.Goals as goal

pub returns-clause-value : goal.returns-clause-value
returns-clause-value c =
    rw (
      coordinate_difference-is _ _ _ _ c.y.ensures.value c.y-2.ensures.value c.y.ensures.limits.down c.y-2.ensures.limits.down,
      c.high_end.ensures,
      c.low_end.ensures,
    )
