use Rattle.scripts.proofs.Digits.{digits-stand}
use Rattle.scripts.proofs.laws.digits_stand_for_body.Goals as goal

pub returns : goal.returns
returns c = digits-stand
