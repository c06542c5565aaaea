use Rattle.std.proofs.Common.{arith}
use Rattle.std.proofs.lemmas.Str.{utf8_valid_len-IsUtf8}
use Rattle.maplex.proofs.text.read_text.Goals as goal

pub returns-in-Ok-clause-good : goal.returns-in-Ok-clause-good
returns-in-Ok-clause-good c = omega (arith, utf8_valid_len-IsUtf8 _ c.in-Ok.ensures.cases.1)

pub returns-in-Ok-2-clause-bad : goal.returns-in-Ok-2-clause-bad
returns-in-Ok-2-clause-bad c = omega (arith, utf8_valid_len-IsUtf8 _ c.in-Ok-2.ensures.cases.1)
