use Rattle.csvpoints.proofs.EachRow.{has-each-row}
use Rattle.csvpoints.proofs.laws.each_row_has_a_feature.Goals as goal

pub returns : goal.returns
returns c = has-each-row
