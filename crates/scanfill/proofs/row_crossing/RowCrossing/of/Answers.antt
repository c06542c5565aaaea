use Rattle.std.proofs.Common.{◌≡◌, ◌^◌, pos, arith}
use Rattle.std.proofs.lemmas.Int.{ints}
use lib.IntN.{◌*ℤ◌}
use Rattle.geom.specs.Device.{centre}
use Rattle.geom.specs.Edge.{rise}
use Rattle.clip.proofs.Sides.{crosses-rise}
use Rattle.scanfill.specs.Column.{column_of}
use Rattle.scanfill.specs.Walk.{over_of}
use Rattle.scanfill.proofs.Sizes.{quotient_of-below}
use Rattle.scanfill.proofs.Words.{wide, wide-held, word, word-held}
use Rattle.scanfill.proofs.row_crossing.RowCrossing.of.Goals as goal

pub divide-requires-clause-some : goal.divide-requires-clause-some
divide-requires-clause-some c =
    let some = crosses-rise c.args.edge (centre (pos c.args.row)) c.requires.crosses in
    omega (arith, ints, c.sixteen_times.ensures.value, c.rise.ensures.value, c.rise.ensures.range)

pub divide-requires-clause-column : goal.divide-requires-clause-column
divide-requires-clause-column c =
    let whole : c.sixteen_times.result ≡ pos 16 *ℤ rise c.args.edge = omega (arith, ints, c.sixteen_times.ensures.value, c.rise.ensures.value, c.rise.ensures.range) in
    rw (
      wide (2 ^ 97) c.reach.result (omega arith) c.reach.ensures.range,
      c.reach.ensures.value,
      word (2 ^ 52) c.sixteen_times.result (omega arith) c.sixteen_times.ensures.range,
      whole,
    ) (quotient_of-below c.args.edge c.args.row c.rise.ensures.limits c.requires.crosses)

pub returns : goal.returns
unfolding column_of over_of
returns c =
    let whole : c.sixteen_times.result ≡ pos 16 *ℤ rise c.args.edge = omega (arith, ints, c.sixteen_times.ensures.value, c.rise.ensures.value, c.rise.ensures.range) in
    rw (
      c.divide.ensures,
      wide (2 ^ 97) c.reach.result (omega arith) c.reach.ensures.range,
      c.reach.ensures.value,
      word (2 ^ 52) c.sixteen_times.result (omega arith) c.sixteen_times.ensures.range,
      whole,
    )

pub sixteen_times-requires : goal.sixteen_times-requires
sixteen_times-requires c = word-held (2 ^ 48) c.rise.result (omega arith) c.rise.ensures.range

pub divide-requires-clause-reach : goal.divide-requires-clause-reach
divide-requires-clause-reach c = wide-held (2 ^ 97) c.reach.result (omega arith) c.reach.ensures.range

pub divide-requires-clause-whole : goal.divide-requires-clause-whole
divide-requires-clause-whole c = word-held (2 ^ 52) c.sixteen_times.result (omega arith) c.sixteen_times.ensures.range
