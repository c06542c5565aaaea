use Rattle.std.proofs.Common.{◌≡◌, drop}
use Rattle.csv.specs.Records.{fields_of}
use Rattle.csvpoints.proofs.Fields.{AreSoFar}
use Rattle.csvpoints.proofs.row.texts_of.Given as goal

abbrev pub invariant-loop-field : goal.invariant-loop-field
invariant-loop-field l =
    (l.field-iterator.row.now ≡ l.fn.row) × AreSoFar (fields_of l.fn.row) l.texts (drop l.field-iterator.at (fields_of l.fn.row))
