use Rattle.strokes.proofs.RoundRuns.{rows-law}
use Rattle.strokes.proofs.laws.round_rows.Goals as goal

pub returns : goal.returns
returns c = rows-law
