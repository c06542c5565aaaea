use Rattle.labelcache.proofs.cells.+finds.Given as goal

abbrev pub decreases-finds : goal.decreases-finds
decreases-finds l = l.cell.level
