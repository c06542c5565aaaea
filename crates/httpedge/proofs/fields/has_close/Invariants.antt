use Rattle.std.proofs.Common.{◌≡◌, length}
use Rattle.std.specs.List.{list_any}
use Rattle.httpedge.specs.Fields.{is_close, parts}
use Rattle.httpedge.proofs.fields.has_close.Given as goal

abbrev pub invariant-loop-after : goal.invariant-loop-after
invariant-loop-after l = list_any is_close (parts l.rest) ≡ list_any is_close (parts l.fn.value)

abbrev pub decreases-loop-after : goal.decreases-loop-after
decreases-loop-after l = length l.rest
