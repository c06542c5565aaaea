use Rattle.std.proofs.Common.{sym}
use Rattle.csv.specs.Records.{fields_of}
use Rattle.csvpoints.proofs.Fields.{field-read, field-there}
use Rattle.csvpoints.proofs.row.coordinate_in.Goals as goal

pub returns-in-Some : goal.returns-in-Some
returns-in-Some c = rw (field-read (fields_of c.args.row.now) c.args.column c.in-Some.text.now (sym c.in-Some.ensures.value)) c.coordinate_of.ensures

pub returns-in-None : goal.returns-in-None
returns-in-None c = absurd (field-there (fields_of c.args.row.now) c.args.column c.requires (sym c.in-None.ensures.value))
