use Rattle.std.proofs.Common.{◌∙◌}
use Rattle.smoothing.proofs.Sharing.{part-mean}
use Rattle.smoothing.proofs.sums.Sums.mean.Goals as goal

pub returns-else-is_whole : goal.returns-else-is_whole
returns-else-is_whole c = λ pixels all are. c.shared.ensures ∙ part-mean pixels c.args.self c.args.count c.requires.few all are
