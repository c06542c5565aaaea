use Rattle.std.proofs.Common.{◌≡◌, ◌+◌, length}
use Rattle.std.specs.Vec.Iter.{into_iter_items}
use Rattle.layers.specs.Draft.{with_more}
use Rattle.layers.proofs.Extending.{CanTakeFrom, extend_from}
use Rattle.layers.proofs.draft.extended_all.Given as goal

-- the remaining layers, with theirs, make all of them
abbrev pub invariant-loop-features : goal.invariant-loop-features
invariant-loop-features l = record {
  all : extend_from l.index (into_iter_items l.features-iterator) l.extended ≡ with_more l.fn.more.items l.fn.layers;
  room : CanTakeFrom l.index (into_iter_items l.features-iterator) l.extended;
  count : l.index + length (into_iter_items l.features-iterator) ≡ length l.fn.more.items;
}
