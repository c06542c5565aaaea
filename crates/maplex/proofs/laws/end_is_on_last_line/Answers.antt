use Rattle.maplex.proofs.Grammar.{end-is-on-last-line}
use Rattle.maplex.proofs.laws.end_is_on_last_line.Goals as goal

pub returns : goal.returns
returns c = end-is-on-last-line
