use Rattle.std.proofs.Common.{◌≡◌, ◌+◌, ◌-◌, length, subst, arith}
use Rattle.labelcache.specs.Placement.{setting}
use Rattle.labelcache.specs.Placing.{IsPlacedTo}
use Rattle.labelcache.proofs.Steps.{starts, next-priority, ends}
use Rattle.labelcache.proofs.order.place_all.Goals as goal

pub loop-priority-init : goal.loop-priority-init
loop-priority-init c = starts (setting c.args.page.now c.args.candidates.now) c.in_ok-placing.placing c.requires c.in_ok-placing.ensures

pub loop-priority-preserved : goal.loop-priority-preserved
loop-priority-preserved c =
    let s = setting c.args.page.now c.args.candidates.now in
    let e : c.loop-priority.priority ≡ (c.loop-priority.priority - 1) + 1 = omega (arith, c.loop-priority-test.true) in
    next-priority s (c.loop-priority.priority - 1) c.place_priority.new.placing
    (subst (λ p. IsPlacedTo s p 0 c.place_priority.new.placing) e c.in_ok-place_priority.ensures)

pub returns-clause-placed : goal.returns-clause-placed
returns-clause-placed c =
    let s = setting c.args.page.now c.args.candidates.now in
    let e : c.loop-priority.priority ≡ 0 = omega (arith, c.loop-priority-test.false) in
    let placed = subst (λ p. IsPlacedTo s p (length c.args.candidates.now) c.loop-priority.placing) e c.loop-priority.invariant in
    rw c.into_labels.ensures.value (ends s c.loop-priority.placing c.requires placed)
