use Rattle.std.proofs.Common.{arith}
use Rattle.std.proofs.lemmas.Int.{ints}
use lib.IntN.{◌-ℤ◌}
use mir.Syntax.{w64}
use mir.Val.{to_z, of_z}
use Rattle.compose.proofs.Blocking.{moved-label}
use Rattle.compose.proofs.block.moved.Goals as goal

pub new-requires-clause-column : goal.new-requires-clause-column
new-requires-clause-column c = record { above = omega (arith, ints); below = omega (arith, ints) }

pub new-requires-clause-row : goal.new-requires-clause-row
new-requires-clause-row c = record { above = omega (arith, ints); below = omega (arith, ints) }

pub returns : goal.returns
returns c =
    moved-label c.args.label c.args.view c.new.result
    (to_z w64 (of_z w64 (to_z w64 (of_z w64 c.i.result) -ℤ to_z w64 (of_z w64 c.from-left.result)))) (to_z w64 (of_z w64 (to_z w64 (of_z w64 c.j.result) -ℤ to_z w64 (of_z w64 c.from-top.result))))
    c.new.ensures (omega (arith, ints)) (omega (arith, ints))
