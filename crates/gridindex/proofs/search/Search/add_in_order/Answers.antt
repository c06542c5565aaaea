use Rattle.gridindex.proofs.InOrder.{first-all, first-none}
use Rattle.gridindex.proofs.search.Search.add_in_order.Goals as goal

pub loop-index-init : goal.loop-index-init
loop-index-init c = rw c.requires.empty (first-none c.args.self.now.window c.args.self.now.boxes.now)

pub returns : goal.returns
returns c = first-all c.args.self.now.window c.args.self.now.boxes.now c.loop-index.index c.loop-index.found.items c.loop-index-test.false c.loop-index.invariant
