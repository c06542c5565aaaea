use Rattle.bdffont.proofs.WrittenFont.{others-are-skipped}
use Rattle.bdffont.proofs.laws.other_lines_are_skipped.Goals as goal

pub returns : goal.returns
returns c = others-are-skipped
