use Rattle.std.proofs.Common.{◌≡◌, ◌∙◌, ◌<◌, ◌∷◌, length, sym, ap, subst, arith, ℕ, List, rules}
use Rattle.turns.specs.Queue.{Queue, IsMarked}
use Rattle.turns.proofs.Order.{first-below, first-is}
use Rattle.turns.proofs.ready_queue.ReadyQueue.first.Goals as goal

pub returns-then-slot-len-clause-first : goal.returns-then-slot-len-clause-first
returns-then-slot-len-clause-first c =
    let i = c.self.inside in
    let slot = c.in_ok-slot.field-0.now in
    let some : 0 < length i.order.items = search rules in
    let (rest, is) = first-is i.order.items slot some c.in_ok-slot.ensures.lookup in
    (rest, sym (ap (λ (q : Queue). q.order) c.self.view_is) ∙ is)

pub returns-else-slot-len-clause-first : goal.returns-else-slot-len-clause-first
returns-else-slot-len-clause-first c =
    let i = c.self.inside in
    let slot = c.in_ok-slot.field-0.now in
    let some : 0 < length i.order.items = search rules in
    let (rest, is) = first-is i.order.items slot some c.in_ok-slot.ensures.lookup in
    let marked : IsMarked i.is_in.items (slot ∷ rest) = subst (λ (q : List ℕ). IsMarked i.is_in.items q) is c.self.invariant.marked in
    let past = c.if-slot-len.false in
    absurd (first-below i.is_in.items slot rest marked (omega (arith, past, c.len.ensures)))
