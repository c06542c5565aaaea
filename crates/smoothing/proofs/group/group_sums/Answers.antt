use Rattle.std.proofs.Common.{◌+◌, ◌*◌, add-zero, refl, arith}
use Rattle.smoothing.specs.Fine.{pixel_at}
use Rattle.smoothing.proofs.Grouping.{block-joined}
use Rattle.smoothing.proofs.group.group_sums.Goals as goal

pub returns-clause-a : goal.returns-clause-a
returns-clause-a g c =
    let col = c.of_rows-columns.result in
    block-joined (pixel_at c.args.fine.now c.args.width) c.args.first g.row.W g.row.N col.outer col.inner 0 c.args.first c.joined.result c.of_rows-columns.ensures (omega (arith, c.requires.group)) (add-zero c.args.first) c.joined.ensures

pub returns-clause-b : goal.returns-clause-b
returns-clause-b g c =
    let col = c.of_rows-columns.result in
    block-joined (pixel_at c.args.fine.now c.args.width) c.args.first g.row.W g.row.N col.outer col.inner g.row.N (c.args.first + g.row.N) c.joined-2.result c.of_rows-columns.ensures (omega (arith, c.requires.group)) refl c.joined-2.ensures

pub returns-clause-c : goal.returns-clause-c
returns-clause-c g c =
    let col = c.of_rows-columns.result in
    block-joined (pixel_at c.args.fine.now c.args.width) c.args.first g.row.W g.row.N col.outer col.inner (2 * g.row.N) (c.args.first + 2 * g.row.N) c.joined-3.result c.of_rows-columns.ensures (omega (arith, c.requires.group)) refl c.joined-3.ensures

pub returns-clause-d : goal.returns-clause-d
returns-clause-d g c =
    let col = c.of_rows-columns.result in
    block-joined (pixel_at c.args.fine.now c.args.width) c.args.first g.row.W g.row.N col.outer col.inner (3 * g.row.N) (c.args.first + 3 * g.row.N) c.joined-4.result c.of_rows-columns.ensures (omega (arith, c.requires.group)) refl c.joined-4.ensures
