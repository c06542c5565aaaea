use Rattle.std.proofs.Common.{◌∙◌}
use Rattle.smoothing.proofs.Sharing.{whole-mean}
use Rattle.smoothing.proofs.sums.Sums.whole_mean.Goals as goal

pub returns : goal.returns
returns c = λ pixels all are. c.shared.ensures ∙ whole-mean pixels c.args.self c.args.count c.requires.few all are c.requires.whole
