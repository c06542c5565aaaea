use Rattle.std.proofs.lemmas.Result.{IfOk-weaker}
use Rattle.mapparse.proofs.FontIs.{font-read, error-read, err-weaker}
use Rattle.mapparse.proofs.font.font_of.Goals as goal

pub returns-clause-font : goal.returns-clause-font
returns-clause-font c = IfOk-weaker c.read_within.result _ _ (λ font. font-read _ font) c.read_within.ensures.font

pub returns-clause-error : goal.returns-clause-error
returns-clause-error c = err-weaker c.read_within.result _ _ (λ error. error-read _ error) c.read_within.ensures.error
