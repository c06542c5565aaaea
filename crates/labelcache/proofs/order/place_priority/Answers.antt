use Rattle.std.proofs.Common.{◌≡◌, subst, arith}
use Rattle.labelcache.specs.Placement.{setting}
use Rattle.labelcache.specs.Placing.{IsPlacedTo}
use Rattle.labelcache.proofs.order.place_priority.Goals as goal

pub returns : goal.returns
returns c =
    let e : c.loop-number.number ≡ 0 = omega (arith, c.loop-number-test.false) in
    subst (λ n. IsPlacedTo (setting c.args.page.now c.args.candidates.now) c.args.priority n c.loop-number.placing) e c.loop-number.invariant.placed
