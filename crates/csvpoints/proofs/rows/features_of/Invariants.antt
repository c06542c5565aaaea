use Rattle.std.proofs.Common.{◌≡◌, ◌++◌, drop}
use Rattle.csvpoints.specs.Rows.{rows_of}
use Rattle.csvpoints.proofs.rows.features_of.Given as goal

-- the features so far, and those of the places that are left, are all of them
abbrev pub invariant-loop-place : goal.invariant-loop-place
invariant-loop-place l = l.features.items ++ rows_of l.count (drop l.place-index l.places) (drop l.first l.texts) ≡ rows_of l.count l.places l.texts
