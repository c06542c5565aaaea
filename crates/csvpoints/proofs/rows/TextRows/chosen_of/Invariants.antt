use Rattle.std.proofs.Common.{◌≡◌, ◌++◌, drop}
use Rattle.csvpoints.specs.Rows.{chosen_of}
use Rattle.csvpoints.proofs.rows.TextRows.chosen_of.Given as goal

-- the values so far, and those of the places that are left, are all of them
abbrev pub invariant-loop-place : goal.invariant-loop-place
invariant-loop-place l = l.chosen ++ chosen_of l.columns l.self.width (drop l._place-index l.places) (drop l.first l.self.texts.now) ≡ chosen_of l.columns l.self.width l.places l.self.texts.now
