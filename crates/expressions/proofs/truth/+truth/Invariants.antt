use Rattle.std.proofs.Common.{◌≡◌, drop}
use Rattle.std.specs.List.{list_any, list_all}
use Rattle.mapdefs.specs.Truth.{truth}
use Rattle.expressions.proofs.truth.+truth.Given as goal

abbrev pub invariant-is_any_true-loop-part : goal.invariant-is_any_true-loop-part
invariant-is_any_true-loop-part l = list_any (truth l.names l.values) (drop l.part-index l.parts) ≡ list_any (truth l.names l.values) l.parts

abbrev pub invariant-are_all_true-loop-part : goal.invariant-are_all_true-loop-part
invariant-are_all_true-loop-part l = list_all (truth l.names l.values) (drop l.part-index l.parts) ≡ list_all (truth l.names l.values) l.parts
