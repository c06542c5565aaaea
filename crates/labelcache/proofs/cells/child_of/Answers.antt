use Rattle.std.proofs.Common.{◌^◌}
use Rattle.labelcache.proofs.Nesting.{child-within}
use Rattle.labelcache.proofs.cells.child_of.Goals as goal

pub returns-clause-within : goal.returns-clause-within
returns-clause-within c = record {
  column = child-within c.args.cell.column c.args.right c.args.cell.level (2 ^ 34) c.requires.level c.requires.right c.requires.cell.column;
  row = child-within c.args.cell.row c.args.down c.args.cell.level (2 ^ 34) c.requires.level c.requires.down c.requires.cell.row;
}
