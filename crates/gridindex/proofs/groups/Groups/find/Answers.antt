use Rattle.std.proofs.Common.{◌≡◌, length, ap, sym, ◌∙◌, arith}
use Rattle.std.proofs.lemmas.List.Sorted.{IsNonDecreasingBy-from_sort}
use Rattle.gridindex.proofs.Hits.{found-none, found-all}
use Rattle.gridindex.proofs.groups.Groups.find.Goals as goal

pub loop-at-init : goal.loop-at-init
loop-at-init c = record { found = rw c.new-found.ensures.items (found-none _ _ _); bound = omega arith }

pub returns : goal.returns
returns c =
    let found = rw c.deref.ensures.value at c.in_ok-add_hits.ensures in
    let count : c.len.result ≡ length c.args.self.now.order.items = c.len.ensures ∙ (sym c.deref.ensures.len ∙ ap length c.deref.ensures.value) in
    found-all c.args.window c.args.boxes.now c.args.self.now.order.items c.add_hits.new.found.items c.sort_unstable.new.self.items
    c.requires.order c.sort_unstable.ensures.permutation
    (IsNonDecreasingBy-from_sort (λ x. x) c.sort_unstable.new.self.items c.sort_unstable.ensures.sorted)
    (rw count at found c.loop-at.invariant.found)
