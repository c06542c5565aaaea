use Rattle.gridindex.specs.Groups.{HasFound}
use Rattle.gridindex.proofs.search.Search.add_hits.Given as goal

-- what was found from the start on
abbrev pub invariant-loop-at : goal.invariant-loop-at
invariant-loop-at l = HasFound l.self.window l.self.boxes.now l.order l.fn.part.start l.fn.found.items → HasFound l.self.window l.self.boxes.now l.order l.at l.found.items
