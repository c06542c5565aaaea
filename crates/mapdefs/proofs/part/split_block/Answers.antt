use Rattle.std.proofs.lemmas.List.{take_min, drop_min}
use Rattle.mapdefs.proofs.part.split_block.Goals as goal

pub returns-clause-block : goal.returns-clause-block
returns-clause-block c = rw (c.min.ensures, take_min 32 c.args.rest.now) at c.split_at.ensures.front

pub returns-clause-behind : goal.returns-clause-behind
returns-clause-behind c = rw (c.min.ensures, drop_min 32 c.args.rest.now) at c.split_at.ensures.back
