use Rattle.std.proofs.Common.{arith}
use Rattle.layers.proofs.Extending.{from-first, take-first}
use Rattle.layers.proofs.draft.extended_all.Goals as goal

pub loop-features-init : goal.loop-features-init
loop-features-init c = rw c.into_iter-features-iterator.ensures.into_iter_gives.0 (record {
  all = from-first c.args.more.items c.args.layers c.requires;
  room = take-first c.args.more.items c.args.layers c.requires;
  count = omega arith;
})

pub overflow_add-index : goal.overflow_add-index
overflow_add-index c = omega (arith, c.loop-features.invariant.count, c.args.more.ok, c.args.more.small, c.in-Some.ensures.steps)
