use Rattle.std.proofs.Common.{◌≡◌, ◌<◌, ◌∷◌, length, subst, arith, true, false, ℕ, List, length-set}
use Rattle.turns.specs.Queue.{IsMarked, is_distinct}
use Rattle.turns.proofs.Order.{count-less, first-marked, first-below, distinct-rest, marked-rest}
use Rattle.turns.proofs.ready_queue.ReadyQueue.next.Goals as goal

pub invariant_of-self-then-slot-len : goal.invariant_of-self-then-slot-len
invariant_of-self-then-slot-len c =
    let i = c.self.inside in
    let slot = c.in_ok-slot.slot in
    let rest = c.pop_front.new.self.items in
    let split : i.order.items ≡ slot ∷ rest = c.in_ok-slot.ensures.items in
    let below = c.if-slot-len.true in
    let fits : slot < length i.is_in.items = omega (arith, below, c.len.ensures) in
    let marked : IsMarked i.is_in.items (slot ∷ rest) = subst (λ (q : List ℕ). IsMarked i.is_in.items q) split c.self.invariant.marked in
    let distinct : is_distinct (slot ∷ rest) ≡ true = subst (λ (q : List ℕ). is_distinct q ≡ true) split c.self.invariant.distinct in
    let counts = count-less i.is_in.items slot fits (first-marked i.is_in.items slot rest marked) in
    let len = c.in_ok-slot.ensures.cases in
    record {
      distinct = distinct-rest slot rest distinct;
      marked = marked-rest i.is_in.items slot rest fits distinct marked;
      counted = omega (arith, counts, c.self.invariant.counted, len);
      room = omega (arith, length-set i.is_in.items slot false, c.self.invariant.room, c.in_ok-slot.ensures.capacity);
    }

pub invariant_of-self-else-slot-len : goal.invariant_of-self-else-slot-len
invariant_of-self-else-slot-len c =
    let i = c.self.inside in
    let slot = c.in_ok-slot.slot in
    let rest = c.pop_front.new.self.items in
    let split : i.order.items ≡ slot ∷ rest = c.in_ok-slot.ensures.items in
    let marked : IsMarked i.is_in.items (slot ∷ rest) = subst (λ (q : List ℕ). IsMarked i.is_in.items q) split c.self.invariant.marked in
    let past = c.if-slot-len.false in
    absurd (first-below i.is_in.items slot rest marked (omega (arith, past, c.len.ensures)))

pub returns-else-slot-len-clause-below : goal.returns-else-slot-len-clause-below
returns-else-slot-len-clause-below c =
    let i = c.self.inside in
    let slot = c.in_ok-slot.slot in
    let rest = c.pop_front.new.self.items in
    let split : i.order.items ≡ slot ∷ rest = c.in_ok-slot.ensures.items in
    let marked : IsMarked i.is_in.items (slot ∷ rest) = subst (λ (q : List ℕ). IsMarked i.is_in.items q) split c.self.invariant.marked in
    let past = c.if-slot-len.false in
    absurd (first-below i.is_in.items slot rest marked (omega (arith, past, c.len.ensures)))
