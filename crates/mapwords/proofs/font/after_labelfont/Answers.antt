use Rattle.std.proofs.Common.{codes}
use Rattle.mapwords.proofs.Prefixes.{strips_text}
use Rattle.mapwords.proofs.font.after_labelfont.Goals as goal

pub returns : goal.returns
returns c = strips_text c.strip_prefix.result (codes "LABELFONT ") c.args.key.now c.strip_prefix.ensures.cases
