use Rattle.gridindex.specs.Window.{IsAnswerOfFirst}
use Rattle.gridindex.proofs.search.Search.add_in_order.Given as goal

abbrev pub invariant-loop-index : goal.invariant-loop-index
invariant-loop-index l = IsAnswerOfFirst l.self.window l.self.boxes.now l.index l.found.items
