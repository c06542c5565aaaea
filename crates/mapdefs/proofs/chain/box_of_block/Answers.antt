use Rattle.std.proofs.Common.{drop}
use Rattle.std.proofs.lemmas.List.{take_min, take_rest}
use Rattle.mapdefs.proofs.chain.box_of_block.Goals as goal

pub returns : goal.returns
returns c = rw (c.min.ensures, take_rest c.args.vertices.now c.args.start, take_min 33 (drop c.args.start c.args.vertices.now)) at c.of.ensures
