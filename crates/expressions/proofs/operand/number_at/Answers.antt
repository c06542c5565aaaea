use Rattle.std.proofs.Common.{sym}
use Rattle.std.specs.Str.{is_utf8}
use Rattle.geom.specs.declared.micro.TheConstants.{NUMBER_LIMIT}
use Rattle.expressions.proofs.Numbers.{no-text, reading-utf8}
use Rattle.expressions.proofs.operand.number_at.Goals as goal

pub returns-in-None-clause-value : goal.returns-in-None-clause-value
returns-in-None-clause-value c =
    let text = c.split_at.result.0.now in
    absurd (no-text (is_utf8 text) text (reading-utf8 text NUMBER_LIMIT c.in-Ok.value (sym c.in-Ok.ensures.value)) c.in-None.ensures)
