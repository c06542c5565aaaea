use Rattle.wmsquery.proofs.LaterParameters.{later-changes-nothing}
use Rattle.wmsquery.proofs.laws.later_parameters_change_nothing.Goals as goal

pub returns : goal.returns
returns c = later-changes-nothing
