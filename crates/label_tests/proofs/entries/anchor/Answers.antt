use Rattle.std.proofs.Common.{arith}
use Rattle.std.proofs.lemmas.Int.{ints}
use Rattle.label_tests.proofs.entries.anchor.Goals as goal

pub returns : goal.returns
returns c =
    let i = c.requires.column in
    let j = c.requires.row in
    rw c.new.ensures (record {
      column = record { above = omega (arith, ints); below = omega (arith, ints) };
      row = record { above = omega (arith, ints); below = omega (arith, ints) };
    })
