use Rattle.std.proofs.Common.{◌≡◌, ◌-◌, length, take}
use Rattle.csvpoints.specs.Row.{before_spaces}
use Rattle.csvpoints.proofs.row.before_spaces.Given as goal

abbrev pub invariant-loop-spaces : goal.invariant-loop-spaces
invariant-loop-spaces l = before_spaces (take (length l.text - l.spaces) l.text) ≡ before_spaces l.fn.text
