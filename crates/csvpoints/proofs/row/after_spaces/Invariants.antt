use Rattle.std.proofs.Common.{◌≡◌, drop}
use Rattle.csvpoints.specs.Row.{after_spaces}
use Rattle.csvpoints.proofs.row.after_spaces.Given as goal

abbrev pub invariant-loop-start : goal.invariant-loop-start
invariant-loop-start l = after_spaces (drop l.start l.text) ≡ after_spaces l.fn.text
