use Rattle.std.proofs.Common.{◌∙◌}
use Rattle.geom.proofs.Integers.{difference-is, wide-held, word-held}
use Rattle.geom.proofs.edge.Edge.meets_at_or_left.Goals as goal

pub difference-requires-clause-a : goal.difference-requires-clause-a
difference-requires-clause-a c = word-held _ _ c.y.ensures.value c.y.ensures.limits.down

pub difference-requires-clause-b : goal.difference-requires-clause-b
difference-requires-clause-b c = word-held _ _ c.y-2.ensures.value c.y-2.ensures.limits.down

pub difference-requires-2-clause-a : goal.difference-requires-2-clause-a
difference-requires-2-clause-a c = word-held _ _ c.x.ensures.value c.x.ensures.limits.across

pub difference-requires-2-clause-b : goal.difference-requires-2-clause-b
difference-requires-2-clause-b c = word-held _ _ c.x-2.ensures.value c.x-2.ensures.limits.across

pub difference-requires-3-clause-a : goal.difference-requires-3-clause-a
difference-requires-3-clause-a c = word-held _ _ c.x-3.ensures.value c.x-3.ensures.limits.across

pub difference-requires-3-clause-b : goal.difference-requires-3-clause-b
difference-requires-3-clause-b c = word-held _ _ c.x-4.ensures.value c.x-4.ensures.limits.across

pub difference-requires-4-clause-a : goal.difference-requires-4-clause-a
difference-requires-4-clause-a c = word-held _ _ c.y-3.ensures.value c.y-3.ensures.limits.down

pub difference-requires-4-clause-b : goal.difference-requires-4-clause-b
difference-requires-4-clause-b c = word-held _ _ c.y-4.ensures.value c.y-4.ensures.limits.down

pub is_product_at_most-requires-clause-a : goal.is_product_at_most-requires-clause-a
is_product_at_most-requires-clause-a c = wide-held _ c.difference.ensures.range

pub is_product_at_most-requires-clause-b : goal.is_product_at_most-requires-clause-b
is_product_at_most-requires-clause-b c = wide-held _ c.difference-2.ensures.range

pub is_product_at_most-requires-clause-c : goal.is_product_at_most-requires-clause-c
is_product_at_most-requires-clause-c c = wide-held _ c.difference-3.ensures.range

pub is_product_at_most-requires-clause-d : goal.is_product_at_most-requires-clause-d
is_product_at_most-requires-clause-d c = wide-held _ c.difference-4.ensures.range

pub returns : goal.returns
returns c =
    c.is_product_at_most.ensures
    ∙ rw (
      difference-is _ _ _ _ _ c.difference.ensures.value c.y.ensures.value c.y-2.ensures.value c.y.ensures.limits.down c.y-2.ensures.limits.down,
      difference-is _ _ _ _ _ c.difference-2.ensures.value c.x.ensures.value c.x-2.ensures.value c.x.ensures.limits.across c.x-2.ensures.limits.across,
      difference-is _ _ _ _ _ c.difference-3.ensures.value c.x-3.ensures.value c.x-4.ensures.value c.x-3.ensures.limits.across c.x-4.ensures.limits.across,
      difference-is _ _ _ _ _ c.difference-4.ensures.value c.y-3.ensures.value c.y-4.ensures.value c.y-3.ensures.limits.down c.y-4.ensures.limits.down,
      c.low_end-low.ensures,
      c.high_end-high.ensures,
    )
