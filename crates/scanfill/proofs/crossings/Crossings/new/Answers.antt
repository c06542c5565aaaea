use Rattle.std.proofs.Common.{◌<◌, rules}
use Rattle.std.proofs.lemmas.List.Sorted.{All-permutation, IsNonDecreasingBy-from_sort_by_key}
use Rattle.scanfill.specs.Crossing.{end_of, row_of}
use Rattle.scanfill.specs.declared.crossing.Crossing.{Crossing}
use Rattle.scanfill.proofs.Marching.{ordered-first}
use Rattle.scanfill.proofs.crossings.Crossings.new.Goals as goal

pub begun_by-begun-requires-clause-order : goal.begun_by-begun-requires-clause-order
begun_by-begun-requires-clause-order c =
    let sorted = IsNonDecreasingBy-from_sort_by_key row_of c.sort_unstable_by_key.new.self.items c.sort_unstable_by_key.ensures.sorted (λ a r q k. search rules) in
    rw c.deref.ensures.value (λ k l d from le past. sorted k l d le past)

pub invariant_of-result : goal.invariant_of-result
invariant_of-result c =
    let xs = c.sort_unstable_by_key.new.self.items in
    let sorted = IsNonDecreasingBy-from_sort_by_key row_of xs c.sort_unstable_by_key.ensures.sorted (λ a r q k. search rules) in
    let some = All-permutation (λ (c : Crossing). row_of c < end_of c) c.args.list.items xs c.sort_unstable_by_key.ensures.permutation c.requires in
    let begun = rw c.deref.ensures.value at c.begun_by-begun.ensures in
    record { ordered = ordered-first xs c.begun_by-begun.result some sorted begun.within begun.begun begun.waiting }
