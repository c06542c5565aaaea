use Rattle.std.proofs.Common.{arith}
use Rattle.std.proofs.lemmas.Int.{ints}
use lib.IntN.{pos, ◌+ℤ◌}
use Rattle.geom.proofs.Quotients.{quotient_parts}
use Rattle.strokes.proofs.round_columns.sixteenth.Goals as goal

pub returns-clause-value : goal.returns-clause-value
returns-clause-value c =
    let parts = quotient_parts (c.args.z +ℤ pos c.args.more) (pos 16) (omega (arith, ints)) in
    omega (arith, ints, parts.0, parts.1, c.lifted.ensures.value, c.lifted.ensures.range, c.requires.more, c.requires.z)
