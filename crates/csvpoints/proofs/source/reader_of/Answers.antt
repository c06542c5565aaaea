use Rattle.std.proofs.Common.{refl, length}
use Rattle.csv.specs.Reading.{strip_bom}
use Rattle.csvpoints.specs.Source.{left}
use Rattle.csvpoints.proofs.Records.{one-more}
use Rattle.csvpoints.proofs.source.reader_of.Goals as goal

pub returns-clause-records : goal.returns-clause-records
unfolding left
returns-clause-records c = rw (c.from_reader.ensures.source, c.from_reader.ensures.state, one-more (length (strip_bom c.args.text.now))) refl
