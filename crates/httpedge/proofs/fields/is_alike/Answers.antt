use Rattle.httpedge.specs.Fields.{is_alike}
use Rattle.httpedge.proofs.Parts.{same-text}
use Rattle.httpedge.proofs.fields.is_alike.Goals as goal

pub returns : goal.returns
unfolding is_alike
returns c = same-text c.eq_ignore_ascii_case.result _ _ c.eq_ignore_ascii_case.ensures.test
