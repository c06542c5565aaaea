use Rattle.std.proofs.Common.{ap, Some}
use Rattle.std.proofs.lemmas.Str.{is_utf8-from_IsUtf8}
use Rattle.expressions.proofs.Numbers.{not-utf8}
use Rattle.expressions.proofs.operand.text_from.Goals as goal

pub returns-in-Ok : goal.returns-in-Ok
returns-in-Ok c = rw (is_utf8-from_IsUtf8 c.args.bytes.now c.in-Ok.ensures.cases.1) (ap Some c.in-Ok.ensures.cases.0)

pub returns-in-Err : goal.returns-in-Err
returns-in-Err c = rw (not-utf8 c.args.bytes.now c.in-Err.ensures.cases.0)
