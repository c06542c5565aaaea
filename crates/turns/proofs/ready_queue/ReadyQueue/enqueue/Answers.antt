use Rattle.std.proofs.Common.{◌≡◌, ◌∙◌, ◌<◌, length, sym, subst, arith, true, false, get_or, length-set}
use Rattle.turns.specs.Queue.{Queue, has}
use Rattle.turns.proofs.Order.{distinct-more, marked-more, count-more, count-room}
use Rattle.turns.proofs.ready_queue.ReadyQueue.enqueue.Goals as goal

pub push_back_reserved-requires : goal.push_back_reserved-requires
push_back_reserved-requires c =
    let i = c.self.inside in
    let known : c.args.slot < length i.is_in.items = subst (λ (q : Queue). c.args.slot < q.slots) (sym c.self.view_is) c.requires.known in
    let none : has c.args.slot i.order.items ≡ false = subst (λ (q : Queue). has c.args.slot q.order ≡ false) (sym c.self.view_is) c.requires.out in
    let out : get_or i.is_in.items c.args.slot false ≡ false = sym (c.self.invariant.marked c.args.slot) ∙ none in
    omega (arith, count-room i.is_in.items c.args.slot known out, c.self.invariant.counted, c.self.invariant.room)

pub invariant_of-self : goal.invariant_of-self
invariant_of-self c =
    let i = c.self.inside in
    let known : c.args.slot < length i.is_in.items = subst (λ (q : Queue). c.args.slot < q.slots) (sym c.self.view_is) c.requires.known in
    let none : has c.args.slot i.order.items ≡ false = subst (λ (q : Queue). has c.args.slot q.order ≡ false) (sym c.self.view_is) c.requires.out in
    let out : get_or i.is_in.items c.args.slot false ≡ false = sym (c.self.invariant.marked c.args.slot) ∙ none in
    let counts = count-more i.is_in.items c.args.slot known out in
    record {
      distinct = rw c.push_back_reserved.ensures.items (distinct-more i.order.items c.args.slot c.self.invariant.distinct none);
      marked = rw c.push_back_reserved.ensures.items (marked-more i.is_in.items i.order.items c.args.slot known c.self.invariant.marked);
      counted = omega (arith, counts, c.self.invariant.counted, c.push_back_reserved.ensures.len);
      room = omega (arith, length-set i.is_in.items c.args.slot true, c.self.invariant.room, c.push_back_reserved.ensures.capacity);
    }
